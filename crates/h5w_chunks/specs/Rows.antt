-- What the writes of new rows do, on every image.
use Rattle.std.specs.Prelude.{ℕ, ◌+◌, ◌*◌, ◌/◌, ◌<◌, ◌≤◌, ◌≡◌, ◌≢◌, ◌⊎◌, true, false, List, [], ◌∷◌, length, Some}
use Rattle.std.specs.List.{slice_get}
use Rattle.h5w_model.specs.Images.{AllMiss, AllSized, Apart, At, image}
use Rattle.h5w_model.specs.Datasets.{Described}
use Rattle.h5w_model.specs.Tables.{cell_offset, chunks_across}
use Rattle.h5w_model.specs.declared.piece.Write.{Write}
use Rattle.h5w_chunks.specs.Grids.{cell_in, chunk_len, fill_cell}
use Rattle.h5w_chunks.specs.Shares.{chunk_number}
use Rattle.h5w_chunks.specs.declared.grid.ChunkPlace.{ChunkPlace}
use Rattle.h5w_chunks.specs.declared.share.Share.{Share}

-- no two of the chunks meet
abbrev pub ChunksApart : Described → List ChunkPlace → Type 0
ChunksApart d places = (j k : ℕ) (p q : ChunkPlace) → j ≢ k → slice_get places j ≡ Some p → slice_get places k ≡ Some q → Apart p.address (chunk_len d) q.address (chunk_len d)

-- each write lies in one of the chunks
abbrev pub AllWithin : Described → List ChunkPlace → List Write → Type 0
AllWithin d places [] = Unit {0}
AllWithin d places (w ∷ ws) =
    ((k : ℕ) × (p : ChunkPlace) × (slice_get places k ≡ Some p) × (p.address ≤ w.at) × (w.at + length w.piece ≤ p.address + chunk_len d)) × AllWithin d places ws

-- this is the chunk of a row and a column among those that rows from `from` on touch
pub record IsChunkOf (d : Described) (from : ℕ) (places : List ChunkPlace) (row column : ℕ) (p : ChunkPlace) : Type 0 where
  pub band : from / d.layout.chunk_rows ≤ row / d.layout.chunk_rows
  pub across : column < chunks_across d * d.layout.chunk_cols
  pub stands : slice_get places (chunk_number d from row column) ≡ Some p

-- the row is none of these, or the column is past the last
abbrev pub IsOther : Described → ℕ → ℕ → ℕ → ℕ → Type 0
IsOther d from to row column = (row < from) ⊎ ((to ≤ row) ⊎ (d.shape.cols ≤ column))

-- the place of the cell of a row and a column in its chunk
abbrev pub place_in : Described → ChunkPlace → ℕ → ℕ → ℕ
place_in d p row column = p.address + cell_offset d row column

-- The writes of the rows `from` up to but not including `to`, over every image, where no two of the chunks meet.
pub record RowsWritten (d : Described) (cells : List ℕ) (from to : ℕ) (places : List ChunkPlace) (ws : List Write) : Type 0 where
  -- each cell of the rows has a chunk
  pub placed : (row column : ℕ) → from ≤ row → row < to → column < d.shape.cols → (p : ChunkPlace) × IsChunkOf d from places row column p
  -- and stands at its place
  pub stands : (img : List ℕ) (row column : ℕ) (p : ChunkPlace) → ChunksApart d places → IsChunkOf d from places row column p
      → from ≤ row → row < to → column < d.shape.cols → At (image img ws) (place_in d p row column) (cell_in d cells from row column)
  -- all other cells of a new chunk have the fill
  pub filled : (img : List ℕ) (row column : ℕ) (p : ChunkPlace) → ChunksApart d places → IsChunkOf d from places row column p
      → IsOther d from to row column → p.stored ≡ false → At (image img ws) (place_in d p row column) (fill_cell d)
  -- no write meets another cell of a stored chunk
  pub missed : (row column : ℕ) (p : ChunkPlace) → ChunksApart d places → IsChunkOf d from places row column p
      → IsOther d from to row column → p.stored ≡ true → AllMiss ws (place_in d p row column) d.int_type.size
  -- each write is a piece, and lies in one of the chunks
  pub sized : AllSized ws
  pub within : AllWithin d places ws

-- A share lies in its chunk, and the cells of its rows lie among those of the new rows.
pub record IsShare (d : Described) (cells : List ℕ) (s : Share) : Type 0 where
  pub any : 0 < s.rows
  pub rows : s.first + s.rows ≤ d.layout.chunk_rows
  pub columns : s.columns ≤ d.layout.chunk_cols
  pub some : 0 < s.columns
  pub inside : s.columns ≤ d.shape.cols
  pub stride : d.shape.cols * d.int_type.size ≤ length cells
  pub reach : (t : ℕ) → t < s.rows → s.at + t * (d.shape.cols * d.int_type.size) + s.columns * d.int_type.size ≤ length cells
