-- Rows that are written before their flush: whole bands of chunks, which no reader reaches, so that the cells that wait are bounded.
use Rattle.std.specs.Prelude.{◌≡◌, ◌≢◌, ◌⊎◌, ℕ, ◌+◌, ◌-◌, ◌*◌, ◌/◌, ◌%◌, ◌<◌, ◌≤◌, ◌==◌, min, List, [], length, take, drop, ℤ, nat_lt, if◌then◌else◌, slice_get, Some}
use Rattle.h5w_model.specs.Numbers.{undefined}
use Rattle.h5w_model.specs.Logs.{div_up}
use Rattle.h5w_model.specs.Datasets.{Described}
use Rattle.h5w_model.specs.Tables.{chunks_across}
use Rattle.h5w_model.specs.declared.cell.Key.{Key}
use Rattle.h5w_space.specs.Space.{Space}
use Rattle.h5w_space.specs.declared.Full.{Full}
use Rattle.h5w_cache.specs.Plans.{IsRefused}
use Rattle.h5w_chunks.specs.Grids.{cells_of, chunk_len}
use Rattle.h5w_chunks.specs.Shares.{new_writes, touched}
use Rattle.h5w_chunks.specs.Rows.{RowsWritten}
use Rattle.h5w_chunks.specs.Early.{RowsStand}
use Rattle.h5w_chunks.specs.declared.grid.ChunkPlace.{ChunkPlace}
use Rattle.h5w_flush_laws.specs.EarlyRows.{IsEarlyPlace}
use Rattle.h5w_index.specs.Naming.{AreTaken, AreTakenBehind}
use Rattle.h5w_index.specs.Placing.{next_key}
use Rattle.h5w_index.specs.Views.{address_in}
use Rattle.h5w_step_laws.specs.Needed.{AreFew}
use Rattle.h5w_pieces.specs.NextPlaces.{next_places}
use Rattle.h5w_writer.specs.Sessions.{Session, next_row, row_bytes, rows_of, with_rows}

-- ---- What waits

-- how many bytes the chunks of a band of rows have
abbrev pub band_bytes : Described → ℕ
band_bytes d = chunks_across d * chunk_len d

-- what the writes of some bands are counted as, of which the first has rows before row `from` or none: its own cells then, else its chunks whole
abbrev pub bytes_of_bands : Described → (from to bands : ℕ) → ℕ
bytes_of_bands d from to bands =
    if from % d.layout.chunk_rows == 0 then bands * band_bytes d
    else (min to ((from / d.layout.chunk_rows + 1) * d.layout.chunk_rows) - from) * row_bytes d + (bands - 1) * band_bytes d

-- what the writes of the rows `from` up to but not including `to` are counted as
abbrev pub unwritten : Described → (from to : ℕ) → ℕ
unwritten d from to = if nat_lt from to then bytes_of_bands d from to (div_up to d.layout.chunk_rows - from / d.layout.chunk_rows) else 0

-- The bytes that a session has not written: the chunks of the rows that wait, and chunk 0 of the dataset header. (Blocks of the index change
-- at the flush.)
abbrev pub dirty_of : Session → ℕ
dirty_of s = unwritten s.dataset (next_row s) (rows_of s) + length s.header

-- The file has no place for the chunk behind these, which is a new one.
pub record IsPlaceFull (d : Described) (old : Key → ℕ) (chunks : List ChunkPlace) (s : Space) : Type 0 where
  pub absent : old (next_key d chunks) ≡ undefined
  pub full : Full
  pub refused : IsRefused s (chunk_len d) full

-- The file has no place for a new chunk of the band behind these chunks, which have theirs: behind some of that band that would get theirs.
pub record IsBandFull (d : Described) (old : Key → ℕ) (begun : List ChunkPlace) (s : Space) : Type 0 where
  pub chunks : List ChunkPlace
  pub t : Space
  pub taken : AreTakenBehind d old begun s chunks t
  pub inside : length chunks < length begun + chunks_across d
  pub place : IsPlaceFull d old chunks t

-- rows wait, and their next band has no place
pub record HasNoBandPlace (s : Session) : Type 0 where
  pub waits : next_row s < rows_of s
  pub band : IsBandFull s.dataset (λ key. address_in s.index key) s.chunks s.places

-- what waits is within the budget, or has no place
abbrev pub IsWithin : Session → Type 0
IsWithin s = (dirty_of s ≤ s.budget) ⊎ HasNoBandPlace s

-- ---- What is written early

-- Up to this row rows are to be written early, the first of a band or behind all: what waits behind it is within the budget.
pub record IsEarlyRow (s : Session) (row : ℕ) : Type 0 where
  pub over : s.budget < dirty_of s
  pub some : next_row s < row
  pub bound : row ≤ rows_of s
  pub whole : (row ≡ rows_of s) ⊎ (row % s.dataset.layout.chunk_rows ≡ 0)
  pub within : unwritten s.dataset row (rows_of s) + length s.header ≤ s.budget
  pub short : length s.header ≤ 512

-- Rows of a session that wait are written up to a row, the first of a band or behind all: each chunk that they go into has its place, new ones
-- at places that were taken; their pieces are pending, in the order of the chunks' keys.
pub record WritesEarly (s t : Session) : Type 0 where
  pub to : ℕ
  pub some : next_row s < to
  pub bound : to ≤ rows_of s
  pub whole : (to ≡ rows_of s) ⊎ (to % s.dataset.layout.chunk_rows ≡ 0)
  pub taken : AreTakenBehind s.dataset (λ key. address_in s.index key) s.chunks s.places t.chunks t.places
  pub all : length t.chunks ≡ touched s.dataset s.dataset.shape.rows to
  pub placed : (k : ℕ) (p : ChunkPlace) → slice_get t.chunks k ≡ Some p → IsEarlyPlace s.dataset (λ key. address_in s.index key) s.dataset.shape.rows k p
  pub exact : t.pending ≡ new_writes s.dataset (take ((to - next_row s) * row_bytes s.dataset) s.waiting) (next_row s) to (next_places s.dataset s.dataset.shape.rows (next_row s) t.chunks)
  pub written : RowsWritten s.dataset (take ((to - next_row s) * row_bytes s.dataset) s.waiting) (next_row s) to (next_places s.dataset s.dataset.shape.rows (next_row s) t.chunks) t.pending
  pub pieces : t.pending ≢ []
  pub session : t ≡ record s {
    early = to - s.dataset.shape.rows;
    waiting = drop ((to - next_row s) * row_bytes s.dataset) s.waiting;
    chunks = t.chunks;
    places = t.places;
    pending = t.pending;
  }

-- nothing is written early, or some rows are
abbrev pub WrittenEarly : Session → Session → Type 0
WrittenEarly s t = (t ≡ s) ⊎ WritesEarly s t

-- ---- What a session knows of rows that were written early

-- The places of their chunks were taken since the file came to rest, with these places and this map; and their values stand in the image.
pub record HasEarly (d : Described) (early : ℕ) (chunks : List ChunkPlace) (places : Space) (img : List ℕ) (address : Key → ℕ) (rest : Space) (values : List ℤ) : Type 0 where
  pub all : length chunks ≡ touched d d.shape.rows (d.shape.rows + early)
  pub taken : AreTaken d address rest chunks places
  pub placed : (k : ℕ) (p : ChunkPlace) → slice_get chunks k ≡ Some p → IsEarlyPlace d address d.shape.rows k p
  pub stand : RowsStand img d (cells_of d values) d.shape.rows (d.shape.rows + early) chunks []
  pub count : length values ≡ early * d.shape.cols
  pub few : AreFew (with_rows (d.shape.rows + early) d)
  -- where no row was written early nothing was taken
  pub none : early ≡ 0 → rest ≡ places
