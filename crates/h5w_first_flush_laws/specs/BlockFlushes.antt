-- The first flush of a file whose array is a header alone: its index block is made at a new place, and the header, where it stands, names it.
use Rattle.std.specs.Prelude.{◌≡◌, ℕ, List, [], ◌∷◌, ◌++◌, None, ℤ}
use Rattle.h5w_model.specs.Arrays.{eaib_len}
use Rattle.h5w_model.specs.Findings.{Used, chunk_bytes}
use Rattle.h5w_model.specs.Logs.{Log, appended}
use Rattle.h5w_model.specs.declared.piece.Write.{Write}
use Rattle.h5w_step_laws.specs.Ranges.{block_at}
use Rattle.h5w_chunks.specs.declared.grid.ChunkPlace.{ChunkPlace}
use Rattle.h5w_step_laws.specs.Files.{commit_at}
use Rattle.h5w_space.specs.Space.{Space}
use Rattle.h5w_cache.specs.Stores.{Store}
use Rattle.h5w_cache.specs.declared.moves.Move.{Move}
use Rattle.h5w_step_laws.specs.Moments.{Moment}
use Rattle.h5w_step_laws.specs.Logs.{image_now}
use Rattle.h5w_step_laws.specs.Sessions.{Runs}
use Rattle.h5w_array_laws.specs.Parts.{index_block, header}
use Rattle.h5w_array_laws.specs.ArrayStores.{place_at_part, bytes_at_part, header_place}
use Rattle.h5w_flush_laws.specs.Spaces.{Taken}
use Rattle.h5w_flush_laws.specs.Parts.{Parts, IsFlush, pieces_of, block_writes}
use Rattle.h5w_flush_laws.specs.Chunks.{chunks_for}
use Rattle.h5w_first_flush_laws.specs.FirstFlushes.{RisesTo, no_chunk}
use Rattle.h5w_first_flush_laws.specs.Starting.{IsBlank}
use Rattle.h5w_first_flush_laws.specs.StartFlushes.{IsStarted, IsStartedOver, IsStartingPart, first_parts}
use Rattle.h5w_first_flush_laws.specs.HeaderAlone.{AloneKnows}

-- the array's index block, as a block at a new place
abbrev pub new_block : Store → List (ℕ × List ℕ)
new_block w = (place_at_part w index_block, bytes_at_part w index_block) ∷ []

-- the piece that writes it, and that which writes the header where it stands
abbrev pub block_piece : Store → Write
block_piece w = record { at = place_at_part w index_block; piece = bytes_at_part w index_block }

abbrev pub top_piece : Store → Write
top_piece w = record { at = header_place w; piece = bytes_at_part w header }

-- The parts of such a flush; this is its store once all is planned. Behind the copies comes the index block; the header is written last of the
-- array's blocks.
abbrev pub block_parts : ℕ → Store → ℕ → List ℤ → List Write → List Used → List (ℕ × List ℕ) → List Write → ℕ → Parts
block_parts bytes w rows more writes chunks copies supers last = first_parts bytes w rows more writes chunks copies (new_block w) supers last (top_piece w ∷ []) None

-- those of a flush that begins with such a file, by the places of its chunks
abbrev pub block_parts_for : Moment → Store → ℕ → List ℤ → List Write → List ChunkPlace → List (ℕ × List ℕ) → List Write → ℕ → Parts
block_parts_for m w rows more writes places copies supers last = block_parts (chunk_bytes m.dataset) w rows more writes (chunks_for m no_chunk places) copies supers last

-- What a session shows of such a flush, over the places as they were before any were taken for it: `u` is an array without chunks, whose header
-- is at the place of the file's.
pub record IsBlockStart (img : List ℕ) (m : Moment) (base b : Space) (u v : Store) (ms : List Move) (w : Store) (t : Space) (rows : ℕ) (more : List ℤ) (writes : List Write) (places : List ChunkPlace) (copies : List (ℕ × List ℕ))
    (fixed supers : List Write) : Type 0 where
  pub rising : RisesTo img m (block_parts_for m w rows more writes places copies supers t.end) places
  pub blank : IsBlank u
  pub at : header_place u ≡ m.dataset.layout.address
  -- the places of the index block and of the new chunks, in whatever order they were taken
  pub taken : Taken base (block_at (place_at_part u index_block) eaib_len ∷ chunks_for m no_chunk places) b
  pub part : IsStartingPart m u v b ms w t (chunks_for m no_chunk places) copies fixed

-- ---- Laws

-- The plan of such an array writes its index block and then its header; in the flush the superblock comes between them.
pub record AreBlockPieces (img : List ℕ) (m : Moment) (w : Store) (rows : ℕ) (writes : List Write) (copies : List (ℕ × List ℕ)) (fixed supers : List Write) (f : Parts) : Type 0 where
  pub two : fixed ≡ block_piece w ∷ top_piece w ∷ []
  pub pieces : pieces_of img m f ≡ writes ++ (block_writes copies ++ (block_piece w ∷ (supers ++ (top_piece w ∷ commit_at img m.place rows None ∷ []))))

abbrev pub BlockPieces : Type 0
BlockPieces = (img : List ℕ) (m : Moment) (s t : Space) (u v w : Store) (ms : List Move) (rows : ℕ) (more : List ℤ) (writes : List Write) (chunks : List Used) (copies : List (ℕ × List ℕ)) (fixed supers : List Write) (last : ℕ)
    → IsStartingPart m u v s ms w t chunks copies fixed
    → AreBlockPieces img m w rows writes copies fixed supers (block_parts (chunk_bytes m.dataset) w rows more writes chunks copies supers last)

-- It is a flush.
abbrev pub BlockIsFlush : Type 0
BlockIsFlush = (img name : List ℕ) (m : Moment) (base b t : Space) (u v w : Store) (ms : List Move) (rows : ℕ) (more : List ℤ) (writes : List Write) (places : List ChunkPlace) (copies : List (ℕ × List ℕ))
    (fixed supers : List Write) → AloneKnows img name m base → IsBlockStart img m base b u v ms w t rows more writes places copies fixed supers
    → IsFlush img m no_chunk base (block_parts_for m w rows more writes places copies supers t.end) t

-- Its pieces are safe steps. Once all are shown the array rests, as one that was always whole: so each later flush is that of such an array.
abbrev pub BlockLeads : Type 0
BlockLeads = (img name : List ℕ) (m : Moment) (base b t : Space) (u v w : Store) (ms : List Move) (rows : ℕ) (more : List ℤ) (writes : List Write) (places : List ChunkPlace) (copies : List (ℕ × List ℕ))
    (fixed supers : List Write) → (k : AloneKnows img name m base) → IsBlockStart img m base b u v ms w t rows more writes places copies fixed supers
    → IsStarted img name m k.knows.held t w (block_parts_for m w rows more writes places copies supers t.end)

-- The same over a session's log: a flush is planned of all values that were appended.
abbrev pub BlockRuns : Type 0
BlockRuns = (name : List ℕ) (log : Log) (m : Moment) (base b t : Space) (u v w : Store) (ms : List Move) (rows : ℕ) (more : List ℤ) (writes : List Write) (places : List ChunkPlace) (copies : List (ℕ × List ℕ))
    (fixed supers : List Write) → (k : AloneKnows (image_now log) name m base) → Runs name log [] m k.knows.held → IsBlockStart (image_now log) m base b u v ms w t rows more writes places copies fixed supers
    → m.values ++ more ≡ appended log → IsStartedOver name log m t w (block_parts_for m w rows more writes places copies supers t.end)
