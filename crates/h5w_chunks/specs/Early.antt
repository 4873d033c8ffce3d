-- Rows whose cells stand in an image, of which some were written before the others.
use Rattle.std.specs.Prelude.{ℕ, ◌+◌, ◌-◌, ◌*◌, ◌/◌, ◌<◌, ◌≤◌, ◌≡◌, true, false, List, [], ◌++◌, length, Some}
use Rattle.std.specs.List.{slice_get}
use Rattle.h5w_model.specs.Images.{AllMiss, At, image}
use Rattle.h5w_model.specs.Datasets.{Described}
use Rattle.h5w_model.specs.Tables.{chunks_across}
use Rattle.h5w_model.specs.declared.piece.Write.{Write}
use Rattle.h5w_chunks.specs.Grids.{IsCut, cell_in, fill_cell}
use Rattle.h5w_chunks.specs.Shares.{touched_band}
use Rattle.h5w_chunks.specs.Rows.{AllWithin, ChunksApart, IsChunkOf, IsOther, RowsWritten, place_in}
use Rattle.h5w_chunks.specs.declared.grid.ChunkPlace.{ChunkPlace}

-- The cells of the rows `from` up to but not including `to` stand in this image once these writes are done. Some may have been there before.
pub record RowsStand (img : List ℕ) (d : Described) (cells : List ℕ) (from to : ℕ) (places : List ChunkPlace) (ws : List Write) : Type 0 where
  -- each cell of the rows has a chunk
  pub placed : (row column : ℕ) → from ≤ row → row < to → column < d.shape.cols → (p : ChunkPlace) × IsChunkOf d from places row column p
  -- and stands at its place
  pub stands : (row column : ℕ) (p : ChunkPlace) → IsChunkOf d from places row column p → from ≤ row → row < to → column < d.shape.cols → At (image img ws) (place_in d p row column) (cell_in d cells from row column)
  -- all other cells of a new chunk have the fill
  pub filled : (row column : ℕ) (p : ChunkPlace) → IsChunkOf d from places row column p → IsOther d from to row column → p.stored ≡ false → At (image img ws) (place_in d p row column) (fill_cell d)
  -- no write meets another cell of a stored chunk
  pub missed : (row column : ℕ) (p : ChunkPlace) → IsChunkOf d from places row column p → IsOther d from to row column → p.stored ≡ true → AllMiss ws (place_in d p row column) d.int_type.size
  -- each write lies in one of the chunks
  pub within : AllWithin d places ws

-- ---- Rows behind rows

-- how many of the chunks that rows from `from` on touch stand before the band of row `mid`
abbrev pub shift_of : Described → ℕ → ℕ → ℕ
shift_of d from mid = (mid / d.layout.chunk_rows - from / d.layout.chunk_rows) * chunks_across d

-- the first row of the band of touched chunk k of the rows from `from` on
abbrev pub band_row : Described → ℕ → ℕ → ℕ
band_row d from k = touched_band d from k * d.layout.chunk_rows

-- By place q the rows from `mid` on are written into their touched chunk k, whose place among those of all rows is p. Where its band has a row
-- before `mid` it counts as stored.
pub record WritesNext (d : Described) (mid k : ℕ) (p q : ChunkPlace) : Type 0 where
  pub address : q.address ≡ p.address
  pub early : band_row d mid k < mid → q.stored ≡ true
  pub late : mid ≤ band_row d mid k → q.stored ≡ p.stored

-- The places of all chunks that the rows from `from` on touch, of those among them that rows before `mid` touch (`some`), and those by which
-- the rows from `mid` on are written (`later`).
pub record GoesOn (d : Described) (from mid : ℕ) (some later all : List ChunkPlace) : Type 0 where
  pub first : (k : ℕ) (p : ChunkPlace) → slice_get some k ≡ Some p → slice_get all k ≡ Some p
  pub known : (k : ℕ) (p : ChunkPlace) → slice_get all k ≡ Some p → band_row d from k < mid → slice_get some k ≡ Some p
  pub next : (k : ℕ) (p : ChunkPlace) → slice_get all (shift_of d from mid + k) ≡ Some p → (q : ChunkPlace) × (slice_get later k ≡ Some q) × WritesNext d mid k p q
  pub back : (k : ℕ) (q : ChunkPlace) → slice_get later k ≡ Some q → (p : ChunkPlace) × (slice_get all (shift_of d from mid + k) ≡ Some p) × WritesNext d mid k p q

-- ---- Laws

-- Rows that are written stand in each image.
abbrev pub WrittenStand : Type 0
WrittenStand = (img : List ℕ) (d : Described) (cells : List ℕ) (from to : ℕ) (places : List ChunkPlace) (ws : List Write) → RowsWritten d cells from to places ws → ChunksApart d places → RowsStand img d cells from to places ws

-- Rows that stand, and writes of those behind them: once these are done all of them stand.
abbrev pub EarlyJoins : Type 0
EarlyJoins = (img : List ℕ) (d : Described) (old new : List ℕ) (from mid to : ℕ) (some later all : List ChunkPlace) (ws : List Write) → IsCut d → from ≤ mid → mid ≤ to
    → length old ≡ (mid - from) * d.shape.cols * d.int_type.size → RowsStand img d old from mid some [] → RowsWritten d new mid to later ws → GoesOn d from mid some later all → ChunksApart d all
    → RowsStand img d (old ++ new) from to all ws
