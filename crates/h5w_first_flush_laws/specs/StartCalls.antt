-- A first flush by what its calls give: two places are taken, an array is made there, the chunks get their places and the array names them,
-- and its changed blocks are planned.
use Rattle.std.specs.Prelude.{◌≡◌, ℕ, ◌+◌, ◌^◌, ◌<◌, true, List, [], ◌∷◌, ◌++◌, length, map, Option, Some, ℤ}
use Rattle.h5w_model.specs.Images.{image}
use Rattle.h5w_model.specs.Headers.{with_rows_bytes}
use Rattle.h5w_model.specs.Tables.{needed_keys}
use Rattle.h5w_model.specs.Logs.{Log, plans, appended, and_now}
use Rattle.h5w_model.specs.Arrays.{eahd_len, eaib_len}
use Rattle.h5w_model.specs.Findings.{Used, chunk_bytes}
use Rattle.h5w_model.specs.declared.piece.Write.{Write}
use Rattle.h5w_step_laws.specs.Ranges.{block_at}
use Rattle.h5w_chunks.specs.declared.grid.ChunkPlace.{ChunkPlace}
use Rattle.h5w_step_laws.specs.Files.{chunk_0, commit_at}
use Rattle.h5w_space.specs.Space.{Space, extent}
use Rattle.h5w_cache.specs.Plans.{Took}
use Rattle.h5w_cache.specs.Stores.{Store, place_of, is_changed}
use Rattle.h5w_cache.specs.StoreLaws.{Standing}
use Rattle.h5w_cache.specs.declared.moves.Move.{Move}
use Rattle.h5w_step_laws.specs.Moments.{Moment}
use Rattle.h5w_step_laws.specs.Logs.{image_now}
use Rattle.h5w_step_laws.specs.Sessions.{Runs}
use Rattle.h5w_array_laws.specs.Among.{AreAmong}
use Rattle.h5w_array_laws.specs.Parts.{index_block, number_of}
use Rattle.h5w_array_laws.specs.ArrayStores.{IsArray, IsCreated, header_place, map_of, fixed_of, behind_of}
use Rattle.h5w_array_laws.specs.ArrayPlans.{IsArrayPlan}
use Rattle.h5w_flush_laws.specs.Spaces.{Taken}
use Rattle.h5w_flush_laws.specs.Parts.{block_writes, committed, pieces_of}
use Rattle.h5w_flush_laws.specs.Chunks.{chunks_for}
use Rattle.h5w_array_flush_laws.specs.ArrayBegins.{Begins}
use Rattle.h5w_first_flush_laws.specs.FirstFlushes.{RisesTo, no_chunk}
use Rattle.h5w_first_flush_laws.specs.Starting.{IsBlank, StartKnows}
use Rattle.h5w_first_flush_laws.specs.StartFlushes.{IsStart, parts_for}

-- an array is made, its header at `at` and its index block at `place`
pub record IsMade (at place : ℕ) (u : Store) : Type 0 where
  pub created : IsCreated at place u
  pub header_ends : at + eahd_len < 2 ^ 64
  pub block_ends : place + eaib_len < 2 ^ 64

-- It names the new chunks of a flush: `u` is the array before, `v` after.
pub record NamesChunks (bytes : ℕ) (u : Store) (chunks : List Used) (v : Store) : Type 0 where
  pub array : IsArray v
  pub standing : (s : Space) → Standing u s → Standing v s
  pub places : (n : ℕ) → place_of v n ≡ place_of u n
  pub changed : is_changed v (number_of index_block) ≡ true
  pub behind : AreAmong (behind_of bytes v) (chunks ++ behind_of bytes u)

-- the calls of such a flush
pub record AreStartCalls (img : List ℕ) (m : Moment) (base b : Space) (at place : ℕ) (u v : Store) (ms : List Move) (w : Store) (t : Space) (rows : ℕ) (more : List ℤ) (writes : List Write) (places : List ChunkPlace)
    (cs fixed supers : List Write) : Type 0 where
  pub rising : (copies : List (ℕ × List ℕ)) → RisesTo img m (parts_for m w rows more writes places copies supers t.end) places
  -- the places of the array's header and index block, and of the new chunks, in whatever order they were taken
  pub taken : Taken base (block_at at eahd_len ∷ block_at place eaib_len ∷ chunks_for m no_chunk places) b
  pub made : IsMade at place u
  pub names : NamesChunks (chunk_bytes m.dataset) u (chunks_for m no_chunk places) v
  pub plan : IsArrayPlan v b ms cs fixed w t

-- ---- Laws

-- The places of the two blocks, taken one after the other, the index block's first.
abbrev pub TwoTaken : Type 0
TwoTaken = (base a s : Space) (at place : ℕ) → Took base a (extent place eaib_len) → Took a s (extent at eahd_len) → Taken base (block_at at eahd_len ∷ block_at place eaib_len ∷ []) s

-- They start the array, and these are the pieces: rows, copies, index block and header, superblock, and last the dataset header.
pub record CallsStart (img name : List ℕ) (m : Moment) (base b : Space) (u v : Store) (ms : List Move) (w : Store) (t : Space) (rows : ℕ) (more : List ℤ) (writes : List Write) (places : List ChunkPlace)
    (cs fixed supers : List Write) : Type 0 where
  pub copies : List (ℕ × List ℕ)
  pub blocks : cs ≡ block_writes copies
  pub blank : IsBlank u
  pub start : IsStart img m base b u v ms w t rows more writes places copies fixed supers
  pub pieces : pieces_of img m (parts_for m w rows more writes places copies supers t.end)
      ≡ writes ++ (cs ++ (fixed ++ (supers ++ commit_at img m.place rows (Some (header_place w)) ∷ [])))

abbrev pub StartCalls : Type 0
StartCalls = (img name : List ℕ) (m : Moment) (base b t : Space) (at place : ℕ) (blank u v w : Store) (ms : List Move) (rows : ℕ) (more : List ℤ) (writes : List Write) (places : List ChunkPlace) (cs fixed supers : List Write)
    → StartKnows img name m base blank → AreStartCalls img m base b at place u v ms w t rows more writes places cs fixed supers
    → CallsStart img name m base b u v ms w t rows more writes places cs fixed supers

-- The file once all pieces of such a flush are shown: it has the new rows, its ranges are the array's, and where its header named none it names
-- this array.
abbrev pub first_shown : Moment → Option ℕ → Store → ℕ → List ℤ → ℕ → Moment
first_shown m named w rows more last = record m {
  super = record (m.super) { end = last };
  dataset = committed m.dataset rows named;
  fixed = fixed_of w;
  behind = behind_of (chunk_bytes m.dataset) w;
  table = map (λ key. map_of w key.i) (needed_keys (committed m.dataset rows named));
  values = m.values ++ more;
}

-- These pieces are pending, of a flush that was planned just now: they are safe steps to that file, whose array will rest, and chunk 0 of
-- whose header is what the last of them writes.
pub record ArePending (name : List ℕ) (log : Log) (m : Moment) (named : Option ℕ) (w : Store) (t : Space) (rows : ℕ) (more : List ℤ) (ws : List Write) : Type 0 where
  pub runs : Runs name (and_now (plans (length ws)) log) ws (first_shown m named w rows more t.end) (behind_of (chunk_bytes m.dataset) w)
  pub begins : Begins (image (image_now log) ws) name (first_shown m named w rows more t.end) t w
  pub header : chunk_0 (image (image_now log) ws) m.place ≡ with_rows_bytes (chunk_0 (image_now log) m.place) rows named

-- A session whose log has come to such a file plans that flush, of all values that were appended.
abbrev pub StartPending : Type 0
StartPending = (name : List ℕ) (log : Log) (m : Moment) (base b t : Space) (at place : ℕ) (blank u v w : Store) (ms : List Move) (rows : ℕ) (more : List ℤ) (writes : List Write) (places : List ChunkPlace)
    (cs fixed supers ws : List Write) → (k : StartKnows (image_now log) name m base blank) → Runs name log [] m k.knows.held → AreStartCalls (image_now log) m base b at place u v ms w t rows more writes places cs fixed supers
    → m.values ++ more ≡ appended log
    → ws ≡ writes ++ (cs ++ (fixed ++ (supers ++ commit_at (image_now log) m.place rows (Some (header_place w)) ∷ []))) → ArePending name log m (Some (header_place w)) w t rows more ws
