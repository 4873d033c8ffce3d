-- New rows in chunks as a part of a flush.
use Rattle.std.specs.Prelude.{◌≡◌, ◌≢◌, ℕ, suc, ◌*◌, ◌/◌, ◌<◌, ◌≤◌, ◌==◌, ◌⊎◌, true, false, List, [], ◌∷◌, ◌++◌, length, if◌then◌else◌, Some, ℤ}
use Rattle.std.specs.List.{slice_get}
use Rattle.h5w_model.specs.Numbers.{undefined}
use Rattle.h5w_model.specs.Messages.{IsIntType}
use Rattle.h5w_model.specs.Logs.{div_up}
use Rattle.h5w_model.specs.Datasets.{Described}
use Rattle.h5w_model.specs.Findings.{Used, chunk_bytes}
use Rattle.h5w_model.specs.Prefixed.{StaysDefined}
use Rattle.h5w_model.specs.declared.cell.Key.{Key}
use Rattle.h5w_step_laws.specs.Ranges.{chunk_at}
use Rattle.h5w_step_laws.specs.Needed.{AreFew}
use Rattle.h5w_chunks.specs.Grids.{FitsType, cells_of, fill_cell}
use Rattle.h5w_chunks.specs.Shares.{first_line, touched, touched_band, touched_key}
use Rattle.h5w_chunks.specs.Rows.{ChunksApart, RowsWritten}
use Rattle.h5w_chunks.specs.Early.{RowsStand}
use Rattle.h5w_chunks.specs.declared.grid.ChunkPlace.{ChunkPlace}
use Rattle.h5w_space.specs.Space.{Space}
use Rattle.h5w_step_laws.specs.Files.{with_rows}
use Rattle.h5w_step_laws.specs.Moments.{Moment}
use Rattle.h5w_flush_laws.specs.Spaces.{Taken}
use Rattle.h5w_flush_laws.specs.Knowledge.{HeldMissed, Knows, IsAsked}
use Rattle.h5w_flush_laws.specs.Parts.{Parts, RowsFlushed}

-- the ranges of the new chunks: of the touched chunks from chunk k on, those whose keys had no address
abbrev pub new_chunks : Described → (Key → ℕ) → ℕ → ℕ → List ChunkPlace → List Used
new_chunks d old from k [] = []
new_chunks d old from k (p ∷ ps) =
    if old (touched_key d from k) == undefined then chunk_at p.address (chunk_bytes d) ∷ new_chunks d old from (suc k) ps else new_chunks d old from (suc k) ps

-- Touched chunk k of the rows from `from` on has its place, by which the index will name it. One that had an address keeps it. Own
-- cells alone are written where it had one; and where it had one and is written whole, it has no row that was there.
pub record IsPlaced (d : Described) (old address : Key → ℕ) (from k : ℕ) (p : ChunkPlace) : Type 0 where
  pub named : address (touched_key d from k) ≡ p.address
  pub defined : p.address ≢ undefined
  pub kept : StaysDefined (old (touched_key d from k)) p.address
  pub stored : p.stored ≡ true → old (touched_key d from k) ≢ undefined
  pub whole : p.stored ≡ false → old (touched_key d from k) ≢ undefined → from ≤ touched_band d from k * d.layout.chunk_rows

-- the bands of these rows do not have the key
abbrev pub IsOutside : Described → ℕ → ℕ → Key → Type 0
IsOutside d from to key = (key.i < first_line d (from / d.layout.chunk_rows)) ⊎ (first_line d (div_up to d.layout.chunk_rows) ≤ key.i)

-- What a session shows of the new rows of a flush: its loop over the touched chunks places each of them (ArrayIndex::get, Places::take,
-- `set`), and Grid::new_bytes writes them.
pub record ArePlaced (img : List ℕ) (m : Moment) (old : Key → ℕ) (f : Parts) (places : List ChunkPlace) : Type 0 where
  pub written : RowsStand img m.dataset (cells_of m.dataset f.more) m.dataset.shape.rows f.rows places f.writes
  pub all : length places ≡ touched m.dataset m.dataset.shape.rows f.rows
  pub placed : (k : ℕ) (p : ChunkPlace) → slice_get places k ≡ Some p → IsPlaced m.dataset old f.address m.dataset.shape.rows k p
  pub others : (key : Key) → IsAsked m.dataset key → IsOutside m.dataset m.dataset.shape.rows f.rows key → f.address key ≡ old key
  pub chunks : f.chunks ≡ new_chunks m.dataset old m.dataset.shape.rows 0 places
  pub typed : IsIntType m.dataset.int_type
  pub filled : length (fill_cell m.dataset) ≡ m.dataset.int_type.size
  pub fit : (k : ℕ) (v : ℤ) → slice_get f.more k ≡ Some v → FitsType m.dataset v

-- ---- Laws

-- New rows in chunks are what a flush asks of them, and the map keeps what was defined.
pub record RowsPart (img : List ℕ) (m : Moment) (held : List Used) (old : Key → ℕ) (f : Parts) : Type 0 where
  pub flushed : RowsFlushed img m f
  pub off_held : HeldMissed held f.writes
  pub kept : (key : Key) → IsAsked m.dataset key → StaysDefined (old key) (f.address key)

abbrev pub RowsFlush : Type 0
RowsFlush = (img name : List ℕ) (m : Moment) (old : Key → ℕ) (s t : Space) (f : Parts) (places : List ChunkPlace) → (k : Knows img name m old s) → Taken s f.chunks t
    → m.dataset.shape.rows < f.rows → AreFew (with_rows f.rows m.dataset) → length (m.values ++ f.more) ≡ f.rows * m.dataset.shape.cols → ArePlaced img m old f places
    → RowsPart img m k.held old f

-- No two of the chunks that rows go into meet: those that have an address keep it, and the new ones were taken.
abbrev pub PlacesApart : Type 0
PlacesApart = (img name : List ℕ) (m : Moment) (old : Key → ℕ) (s t : Space) (rows : ℕ) (places : List ChunkPlace) → Knows img name m old s → Taken s (new_chunks m.dataset old m.dataset.shape.rows 0 places) t
    → m.dataset.shape.rows < rows → AreFew (with_rows rows m.dataset) → length places ≡ touched m.dataset m.dataset.shape.rows rows
    → ((k : ℕ) (p : ChunkPlace) → slice_get places k ≡ Some p → StaysDefined (old (touched_key m.dataset m.dataset.shape.rows k)) p.address) → ChunksApart m.dataset places

-- One more place: so a loop over the touched chunks tells its new chunks.
abbrev pub NewChunksMore : Type 0
NewChunksMore = (d : Described) (old : Key → ℕ) (from : ℕ) (places : List ChunkPlace) (p : ChunkPlace)
    → new_chunks d old from 0 (places ++ p ∷ []) ≡ new_chunks d old from 0 places
    ++ (if old (touched_key d from (length places)) == undefined then chunk_at p.address (chunk_bytes d) ∷ [] else [])

-- What the writes of rows do is the same for a dataset with other rows, which they do not look at.
abbrev pub RowsAnywhere : Type 0
RowsAnywhere = (d : Described) (rows : ℕ) (cells : List ℕ) (from to : ℕ) (places : List ChunkPlace) (ws : _) → RowsWritten (with_rows rows d) cells from to places ws
    → RowsWritten d cells from to places ws
