-- Such a flush by what its calls give: a place is taken for the index block, an array is made with its header where the file's is, the chunks get
-- their places and the array names them, and its changed blocks are planned.
use Rattle.std.specs.Prelude.{◌≡◌, ℕ, List, [], ◌∷◌, ◌++◌, length, min, None, ℤ}
use Rattle.h5w_model.specs.Logs.{Log, appended}
use Rattle.h5w_model.specs.Arrays.{eaib_len}
use Rattle.h5w_model.specs.Findings.{chunk_bytes}
use Rattle.h5w_model.specs.declared.piece.Write.{Write}
use Rattle.h5w_step_laws.specs.Ranges.{block_at}
use Rattle.h5w_chunks.specs.declared.grid.ChunkPlace.{ChunkPlace}
use Rattle.h5w_step_laws.specs.Files.{commit_at}
use Rattle.h5w_space.specs.Space.{Space}
use Rattle.h5w_cache.specs.Stores.{Store}
use Rattle.h5w_cache.specs.declared.moves.Move.{Move}
use Rattle.h5w_step_laws.specs.Moments.{Moment}
use Rattle.h5w_step_laws.specs.Logs.{image_now}
use Rattle.h5w_step_laws.specs.Sessions.{Runs}
use Rattle.h5w_array_laws.specs.ArrayPlans.{IsArrayPlan}
use Rattle.h5w_flush_laws.specs.Spaces.{Taken}
use Rattle.h5w_flush_laws.specs.Parts.{block_writes, pieces_of}
use Rattle.h5w_flush_laws.specs.Chunks.{chunks_for}
use Rattle.h5w_first_flush_laws.specs.FirstFlushes.{RisesTo, no_chunk}
use Rattle.h5w_first_flush_laws.specs.StartCalls.{ArePending, IsMade, NamesChunks}
use Rattle.h5w_first_flush_laws.specs.HeaderAlone.{AloneKnows}
use Rattle.h5w_first_flush_laws.specs.BlockFlushes.{IsBlockStart, block_parts_for}

-- the calls of such a flush
pub record AreBlockCalls (img : List ℕ) (m : Moment) (base b : Space) (place : ℕ) (u v : Store) (ms : List Move) (w : Store) (t : Space) (rows : ℕ) (more : List ℤ) (writes : List Write) (places : List ChunkPlace)
    (cs fixed supers : List Write) : Type 0 where
  pub rising : (copies : List (ℕ × List ℕ)) → RisesTo img m (block_parts_for m w rows more writes places copies supers t.end) places
  -- the places of the index block and of the new chunks, in whatever order they were taken
  pub taken : Taken base (block_at place eaib_len ∷ chunks_for m no_chunk places) b
  pub made : IsMade m.dataset.layout.address place u
  pub names : NamesChunks (chunk_bytes m.dataset) u (chunks_for m no_chunk places) v
  pub plan : IsArrayPlan v b ms cs fixed w t

-- All pieces: rows, copies, index block, superblock, array's header, and last the dataset header. Of the array's writes in place the last one
-- comes behind the superblock.
pub record AreOrdered (img : List ℕ) (m : Moment) (rows : ℕ) (writes cs fixed supers ws : List Write) : Type 0 where
  pub front : List Write
  pub behind : List Write
  pub cut : front ++ behind ≡ fixed
  pub one : length behind ≡ min 1 (length fixed)
  pub all : ws ≡ writes ++ (cs ++ (front ++ (supers ++ (behind ++ commit_at img m.place rows None ∷ []))))

-- ---- Laws

-- They are such a flush, and such pieces are its.
pub record CallsBlock (img name : List ℕ) (m : Moment) (base b : Space) (u v : Store) (ms : List Move) (w : Store) (t : Space) (rows : ℕ) (more : List ℤ) (writes : List Write) (places : List ChunkPlace)
    (cs fixed supers : List Write) : Type 0 where
  pub copies : List (ℕ × List ℕ)
  pub blocks : cs ≡ block_writes copies
  pub start : IsBlockStart img m base b u v ms w t rows more writes places copies fixed supers
  pub pieces : (ws : List Write) → AreOrdered img m rows writes cs fixed supers ws → pieces_of img m (block_parts_for m w rows more writes places copies supers t.end) ≡ ws

abbrev pub BlockCalls : Type 0
BlockCalls = (img name : List ℕ) (m : Moment) (base b t : Space) (place : ℕ) (u v w : Store) (ms : List Move) (rows : ℕ) (more : List ℤ) (writes : List Write) (places : List ChunkPlace) (cs fixed supers : List Write)
    → AloneKnows img name m base → AreBlockCalls img m base b place u v ms w t rows more writes places cs fixed supers
    → CallsBlock img name m base b u v ms w t rows more writes places cs fixed supers

-- A session whose log has come to such a file plans that flush, of all values that were appended: the dataset header names what it named.
abbrev pub BlockPending : Type 0
BlockPending = (name : List ℕ) (log : Log) (m : Moment) (base b t : Space) (place : ℕ) (u v w : Store) (ms : List Move) (rows : ℕ) (more : List ℤ) (writes : List Write) (places : List ChunkPlace)
    (cs fixed supers ws : List Write) → (k : AloneKnows (image_now log) name m base) → Runs name log [] m k.knows.held → AreBlockCalls (image_now log) m base b place u v ms w t rows more writes places cs fixed supers
    → m.values ++ more ≡ appended log → AreOrdered (image_now log) m rows writes cs fixed supers ws → ArePending name log m None w t rows more ws
