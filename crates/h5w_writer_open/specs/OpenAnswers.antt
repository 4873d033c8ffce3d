-- What is answered where a file is opened.
use Rattle.std.specs.Prelude.{◌≡◌, ◌≢◌, ℕ, ◌+◌, ◌-◌, ◌*◌, ◌/◌, ◌%◌, true, false, List, [], ◌∷◌, Option, Some, None, Result, Ok, Err}
use Rattle.h5w_model.specs.Numbers.{undefined}
use Rattle.h5w_model.specs.Programs.{eval}
use Rattle.h5w_model.specs.Datasets.{Described}
use Rattle.h5w_model.specs.Superblock.{super_bytes}
use Rattle.h5w_model.specs.declared.cell.Key.{Key}
use Rattle.h5w_model.specs.declared.cell.IndexKind.{IndexKind}
use Rattle.h5w_model.specs.declared.cell.IndexKind.TheVariants.{Array, Tree}
use Rattle.h5w_model.specs.declared.refusal.BlockFault.{BlockFault}
use Rattle.h5w_model.specs.declared.refusal.ReadError.TheVariants.{Damaged}
use Rattle.h5w_step_laws.specs.Files.{chunk_0}
use Rattle.h5w_cache.specs.Stores.{Store}
use Rattle.h5w_array_laws.specs.ArrayStores.{IsArray, header_place, IsCreated}
use Rattle.h5w_bt_index.specs.Marks.{clean_of}
use Rattle.h5w_bt_index.specs.Index.{Index, no_tree}
use Rattle.h5w_bt_open.specs.Kept.{HasWrongTotals, IsKeptTree, IsUnordered}
use Rattle.h5w_bt_open.specs.Opened.{IsRefused, from_key, looked_in}
use Rattle.h5w_bt_open.specs.Spans.{Leads}
use Rattle.h5w_index.specs.Views.{IndexView, an_array, a_tree}
use Rattle.h5w_ea_index.specs.Opened.{IsDamaged, IsOpened, NamesNone}
use Rattle.h5w_opening.specs.Errors.{refusal_of}
use Rattle.h5w_opening.specs.Openings.{Opened, looked_for}
use Rattle.h5w_opening.specs.declared.error.OpenError.{OpenError}
use Rattle.h5w_opening.specs.declared.error.OpenError.TheVariants.{Read}
use Rattle.h5w_writer_open.specs.declared.index.NoIndex.{NoIndex}
use Rattle.h5w_writer_open.specs.declared.index.NoIndex.TheVariants.{Unnamed, Empty, WrongTotals, Unordered}
use Rattle.h5w_writer_open.specs.OpenRanges.{first_key, first_open_line, refused_open}
use Rattle.h5w_writer.specs.Openings.{flagged}
use Rattle.h5w_writer.specs.Sessions.{Session}

-- ---- The index

-- the array that the dataset names, as it is opened from the last committed band on
pub record IsArrayOf (img : List ℕ) (d : Described) (v : Store) : Type 0 where
  pub kind : d.layout.index ≡ Array
  pub named : d.layout.address ≢ undefined
  pub at : header_place v ≡ d.layout.address
  pub array : IsArray v
  pub clean : v.changed ≡ []
  pub opened : IsOpened img (first_open_line d) v

-- the tree that the dataset names, as it is opened from the first key of that band on: its keys rise, and each node says how many records
-- are under it
pub record IsTreeOf (img : List ℕ) (d : Described) (place : ℕ) (v : Index) : Type 0 where
  pub kind : d.layout.index ≡ Tree
  pub named : d.layout.address ≢ undefined
  pub at : place ≡ d.layout.address
  pub clean : clean_of v.depth v.root ≡ true
  pub tree : IsKeptTree img place (first_key d) v

-- the dataset names an array whose header names no index block
pub record IsEmptyOf (img : List ℕ) (d : Described) : Type 0 where
  pub kind : d.layout.index ≡ Array
  pub named : d.layout.address ≢ undefined
  pub empty : NamesNone img d.layout.address

-- the dataset names a tree of which this holds
pub record IsOtherOf (img : List ℕ) (d : Described) (IsSo : List ℕ → ℕ → Key → Type 0) : Type 0 where
  pub kind : d.layout.index ≡ Tree
  pub named : d.layout.address ≢ undefined
  pub other : IsSo img d.layout.address (first_key d)

-- the index that the dataset names, or why there is none to which rows are appended
abbrev pub IsIndexOf : List ℕ → Described → Result IndexView NoIndex → Type 0
IsIndexOf img d (Ok (an_array v)) = IsArrayOf img d v
IsIndexOf img d (Ok (a_tree place v)) = IsTreeOf img d place v
IsIndexOf img d (Err Unnamed) = d.layout.address ≡ undefined
IsIndexOf img d (Err Empty) = IsEmptyOf img d
IsIndexOf img d (Err WrongTotals) = IsOtherOf img d HasWrongTotals
IsIndexOf img d (Err Unordered) = IsOtherOf img d IsUnordered

-- an index of a kind without chunks, of which nothing stands anywhere
abbrev pub IsBlankOf : IndexKind → IndexView → Type 0
IsBlankOf Array (an_array v) = IsCreated 0 0 v
IsBlankOf Tree (a_tree place v) = (place ≡ 0) × (v ≡ no_tree)
IsBlankOf Array (a_tree place v) = ⊥
IsBlankOf Tree (an_array v) = ⊥

-- an array without chunks whose header stands there: a place of 0 says that it has no index block
abbrev pub IsBare : ℕ → IndexView → Type 0
IsBare at (an_array v) = IsCreated at 0 v
IsBare at (a_tree place v) = ⊥

-- a blank one, where no more of it is there than the header of an array
abbrev pub IsStartOf : Described → NoIndex → IndexView → Type 0
IsStartOf d Empty w = IsBare d.layout.address w
IsStartOf d why w = IsBlankOf d.layout.index w

-- the index that a session begins with: the file's, or a blank one of its kind
abbrev pub IsKeptIndexOf : Described → Result IndexView NoIndex → IndexView → Type 0
IsKeptIndexOf d (Ok v) w = w ≡ v
IsKeptIndexOf d (Err why) w = IsStartOf d why w

-- ---- Refusals

-- A block of the index that the dataset names is refused: the first of an array's, from the last committed band on; of a tree's, that which
-- the least key from there on meets of all whose lookup is refused.
pub data IsBadBlock (img : List ℕ) (d : Described) (at : ℕ) (f : BlockFault) : Type 0 where
  array : d.layout.index ≡ Array → d.layout.address ≢ undefined → IsDamaged img d.layout.address (first_open_line d) at f → IsBadBlock img d at f
  tree : d.layout.index ≡ Tree → d.layout.address ≢ undefined → IsRefused (looked_in img d.layout.address) (Leads (from_key (first_key d))) at f → IsBadBlock img d at f

-- Why a file of these bytes is not opened: something before the index; a block of the index that is refused; or, once all was read, a range
-- or the dataset.
pub data IsNotOpened (img : List ℕ) (size : ℕ) (name : List ℕ) : OpenError → Type 0 where
  unfound : (e : OpenError) → eval img (looked_for size name) ≡ Err e → IsNotOpened img size name e
  damaged : (o : Opened) (at : ℕ) (f : BlockFault) → eval img (looked_for size name) ≡ Ok o → IsBadBlock img o.header.dataset at f → IsNotOpened img size name (Read (Damaged at f))
  refused : (o : Opened) (a : Result IndexView NoIndex) (e : OpenError) → eval img (looked_for size name) ≡ Ok o → IsIndexOf img o.header.dataset a → refused_open o a ≡ Some e → IsNotOpened img size name e

-- ---- The session

-- flags with bit 0, open for writing, and bit 2, open for SWMR writing; the others as they are
abbrev pub writing_flags : ℕ → ℕ
writing_flags flags = flags + (1 - flags % 2) + (1 - flags / 4 % 2) * 4

-- A session over what was found, with chunk 0 of the dataset header: nothing happened yet.
abbrev pub session_over : Opened → List ℕ → IndexView → List ℕ → (limit budget : ℕ) → Session
session_over o header v name limit budget = record {
  name = name;
  root = o.root;
  place = o.place;
  header = header;
  dataset = o.header.dataset;
  places = record { end = o.root.end; limit = limit; free = []; retired = []; spare = 0 };
  committed = o.header.dataset.shape.rows;
  waiting = [];
  waits = 0;
  pending = [];
  stopped = false;
  keeps = false;
  budget = budget;
  early = 0;
  chunks = [];
  flushing = false;
  index = v;
}

-- with the superblock pending that says that the file is written
abbrev pub opened_session : Opened → List ℕ → IndexView → List ℕ → (limit budget : ℕ) → Session
opened_session o header v name limit budget = flagged (writing_flags o.root.flags) false (session_over o header v name limit budget)

-- The session over a file of these bytes, which nothing refuses.
pub record IsOpenedOver (img : List ℕ) (size : ℕ) (name : List ℕ) (limit budget : ℕ) (s : Session) : Type 0 where
  pub found : Opened
  pub is : eval img (looked_for size name) ≡ Ok found
  pub index : Result IndexView NoIndex
  pub is_index : IsIndexOf img found.header.dataset index
  pub unrefused : refused_open found index ≡ None
  pub kept : IndexView
  pub is_kept : IsKeptIndexOf found.header.dataset index kept
  pub session : s ≡ opened_session found (chunk_0 img found.place) kept name limit budget

-- ---- The answer

abbrev pub IfRefusal : Option OpenError → (OpenError → Type 0) → Type 0
IfRefusal (Some e) P = P e
IfRefusal None P = Unit {0}

-- the session, or the first refusal; a failed image and want of memory are neither
abbrev pub IsOpenAnswer : List ℕ → ℕ → List ℕ → (limit budget : ℕ) → Result Session OpenError → Type 0
IsOpenAnswer img size name limit budget (Ok s) = IsOpenedOver img size name limit budget s
IsOpenAnswer img size name limit budget (Err e) = IfRefusal (refusal_of e) (IsNotOpened img size name)

-- What a session has that was opened, whatever the image is: no row waits and none was written early, the rows that it has are committed,
-- nothing is free, and the superblock is pending with both flags, of no flush.
pub record HasBegun (name : List ℕ) (limit budget : ℕ) (s : Session) : Type 0 where
  pub named : s.name ≡ name
  pub limited : s.places.limit ≡ limit
  pub end : s.root.end ≡ s.places.end
  pub free : s.places.free ≡ []
  pub retired : s.places.retired ≡ []
  pub committed : s.committed ≡ s.dataset.shape.rows
  pub waiting : s.waiting ≡ []
  pub waits : s.waits ≡ 0
  pub writing : s.root.flags % 2 ≡ 1
  pub swmr : s.root.flags / 4 % 2 ≡ 1
  pub pending : s.pending ≡ record { at = 0; piece = super_bytes s.root } ∷ []
  pub running : s.stopped ≡ false
  pub frees : s.keeps ≡ false
  pub budgeted : s.budget ≡ budget
  pub early : s.early ≡ 0
  pub chunks : s.chunks ≡ []
  pub flushing : s.flushing ≡ false
