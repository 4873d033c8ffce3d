-- A session over a file whose index is not there yet, or is the header of an array alone, and its first flush.
use Rattle.std.specs.Prelude.{◌≡◌, ◌≢◌, ◌⊎◌, ℕ, ◌+◌, ◌-◌, ◌*◌, ◌^◌, ◌<◌, ◌≤◌, true, List, [], ◌∷◌, ◌++◌, length, min, Option, Some, None, IsSome, ℤ}
use Rattle.h5w_model.specs.Headers.{with_rows_bytes}
use Rattle.h5w_model.specs.Numbers.{undefined}
use Rattle.h5w_model.specs.Lawful.{first_outside}
use Rattle.h5w_model.specs.Logs.{Log, appended, flushed_rows}
use Rattle.h5w_model.specs.Arrays.{eahd_len, eaib_len}
use Rattle.h5w_model.specs.Trees.{bthd_len}
use Rattle.h5w_model.specs.Findings.{Used}
use Rattle.h5w_model.specs.declared.cell.Key.{Key}
use Rattle.h5w_model.specs.declared.piece.Write.{Write}
use Rattle.h5w_step_laws.specs.Ranges.{AllEndBy}
use Rattle.h5w_space.specs.Space.{Space, extent}
use Rattle.h5w_cache.specs.Plans.{Took}
use Rattle.h5w_cache.specs.Stores.{Store}
use Rattle.h5w_chunks.specs.Grids.{cells_of}
use Rattle.h5w_step_laws.specs.Files.{with_index}
use Rattle.h5w_step_laws.specs.Moments.{Moment}
use Rattle.h5w_step_laws.specs.Logs.{image_now}
use Rattle.h5w_step_laws.specs.Sessions.{Runs}
use Rattle.h5w_flush_laws.specs.Knowledge.{Knows}
use Rattle.h5w_first_flush_laws.specs.StartCalls.{IsMade}
use Rattle.h5w_bt_index.specs.Index.{Index, no_tree}
use Rattle.h5w_index.specs.Views.{IndexView, IsSound, an_array, a_tree, fixed_of, header_place, kind_of}
use Rattle.h5w_index.specs.Marks.{IsRaised}
use Rattle.h5w_index.specs.Placing.{IsOwn}
use Rattle.h5w_creation_laws.specs.CreatedFiles.{index_len}
use Rattle.h5w_pieces.specs.Joined.{AreJoined, IsNaming}
use Rattle.h5w_writer.specs.Sessions.{IsUnmade, Session, rows_of, with_rows}
use Rattle.h5w_writer.specs.Indexes.{IsStarting}
use Rattle.h5w_writer.specs.Flushes.{ArePlanned, IsFlushed}
use Rattle.h5w_writer.specs.Early.{HasEarly}
use Rattle.h5w_writer.specs.Stands.{Keeps}

-- what Running says of such a session where nothing is pending
pub record StartRunning (s : Session) (log : Log) : Type 0 where
  pub after : Moment
  pub address : Key → ℕ
  pub held : List Used
  pub runs : Runs s.name log [] after held
  pub rest : Space
  pub knows : Knows (image_now log) s.name after address rest
  pub holds : knows.held ≡ held
  pub keeps : Keeps s (image_now log) after
  pub index : IsStarting (image_now log) after address s.index
  pub early : List ℤ
  pub written : HasEarly s.dataset s.early s.chunks s.places (image_now log) address rest early
  pub some : s.early ≤ s.waits
  pub more : List ℤ
  pub waiting : s.waiting ≡ cells_of s.dataset more
  pub fit : first_outside s.dataset.int_type 0 (early ++ more) ≡ None
  pub count : length more ≡ (s.waits - s.early) * s.dataset.shape.cols
  pub appended : after.values ++ (early ++ more) ≡ appended log
  pub committed : flushed_rows log ≡ s.committed
  pub columns : s.dataset.shape.cols ≡ log.columns

-- a place for an index block is taken, and then one for an array's header
pub record TookTwo (s : Space) (at block : ℕ) (t : Space) : Type 0 where
  pub between : Space
  pub first : Took s between (extent block eaib_len)
  pub second : Took between t (extent at eahd_len)

-- so they are where the layout names no array; else its header stands where the layout says, and the place for an index block is taken alone
pub data TookTops (address : ℕ) (s : Space) (at block : ℕ) (t : Space) : Type 0 where
  both : address ≡ undefined → TookTwo s at block t → TookTops address s at block t
  block_alone : address ≢ undefined → at ≡ address → Took s t (extent block eaib_len) → TookTops address s at block t

-- an array is made, whose index block and whose header stand there
pub record IsArrayMade (address : ℕ) (s : Space) (at : ℕ) (v : Store) (t : Space) : Type 0 where
  pub block : ℕ
  pub tops : TookTops address s at block t
  pub is_made : IsMade at block v

-- a tree is made over a place that was taken, its header's
pub record IsTreeMade (address : ℕ) (s : Space) (at place : ℕ) (v : Index) (t : Space) : Type 0 where
  pub unnamed : address ≡ undefined
  pub place_is : place ≡ at
  pub empty : v ≡ no_tree
  pub header : Took s t (extent at bthd_len)
  pub ends : at + bthd_len < 2 ^ 64

abbrev pub IsMadeAt : ℕ → Space → ℕ → IndexView → Space → Type 0
IsMadeAt address s at (an_array v) t = IsArrayMade address s at v t
IsMadeAt address s at (a_tree place v) t = IsTreeMade address s at place v t

-- An index without chunks is made, for whose blocks in place that are not there places are taken; this is its header's. The layout says that
-- its header stands at an address, or at none.
pub record IsStartedAt (address : ℕ) (s : Space) (at : ℕ) (v : IndexView) (t : Space) : Type 0 where
  pub made : IsMadeAt address s at v t
  pub sound : IsSound v
  pub own : IsOwn v
  pub at_place : header_place v ≡ at
  pub raised : IsRaised s t (index_len (kind_of v))
  pub inside : AllEndBy t.end (fixed_of v)

-- the piece by which the dataset header says all rows, and where the index is, if it is to
abbrev pub naming_piece : Session → Option ℕ → Write
naming_piece s naming = record { at = s.place; piece = with_rows_bytes s.header (rows_of s) naming }

-- the session after such a flush
abbrev pub started_of : Session → ℕ → Option ℕ → Space → List Write → IndexView → Session
started_of s at naming t ws v = record s {
  root = record (s.root) { end = t.end };
  header = (naming_piece s naming).piece;
  dataset = with_index at (with_rows (rows_of s) s.dataset);
  places = t;
  waiting = [];
  waits = 0;
  pending = ws;
  early = 0;
  chunks = [];
  flushing = true;
  index = v;
}

-- A first flush of rows that wait: what each of its calls does, in their order.
pub record IsStartFlushed (old new : Session) : Type 0 where
  -- something of the index is not there
  pub unmade : IsUnmade old
  -- the place of the index's header, the places once those of its blocks in place are taken, and the index that is made there
  pub at : ℕ
  pub first : Space
  pub made : IndexView
  pub kind : old.dataset.layout.index ≡ kind_of made
  pub start : IsStartedAt old.dataset.layout.address old.places at made first
  pub planned : ArePlanned old made first new.index new.places
  pub naming : Option ℕ
  pub names : IsNaming old.dataset.layout.address at naming
  -- all pieces, the header's last; the index's blocks come before the superblock, but for a header that is there
  pub pending : AreJoined naming planned.rows planned.copies planned.fixed planned.supers (naming_piece old naming) new.pending
  pub session : new ≡ started_of old at naming new.places new.pending new.index

-- a flush of rows that wait, into a file whose index is there or is made with it
abbrev pub HasFlushed : Session → Session → Type 0
HasFlushed old new = IsFlushed old new ⊎ IsStartFlushed old new
