-- What new rows write: for each chunk that they touch its share of them, and its writes.
use Rattle.std.specs.Prelude.{ℕ, zero, suc, ◌+◌, ◌-◌, ◌*◌, ◌/◌, ◌%◌, max, min, List, [], ◌∷◌, ◌++◌, flat_map, nat_lt, ◌==◌, if◌then◌else◌}
use Rattle.h5w_model.specs.Numbers.{range}
use Rattle.h5w_model.specs.Images.{pieces}
use Rattle.h5w_model.specs.Logs.{div_up}
use Rattle.h5w_model.specs.Datasets.{Described}
use Rattle.h5w_model.specs.Tables.{chunks_across, index_key}
use Rattle.h5w_model.specs.declared.cell.IndexKind.TheVariants.{Array, Tree}
use Rattle.h5w_model.specs.declared.cell.Key.{Key}
use Rattle.h5w_model.specs.declared.piece.Write.{Write}
use Rattle.h5w_chunks.specs.Grids.{copies, fill_cell, row_len}
use Rattle.h5w_chunks.specs.declared.grid.ChunkPlace.{ChunkPlace}
use Rattle.h5w_chunks.specs.declared.share.Share.{Share}

-- how many chunks the rows `from` up to but not including `to` touch: bands of rows, in each all chunks across
abbrev pub touched : Described → ℕ → ℕ → ℕ
touched d from to = if nat_lt from to then (div_up to d.layout.chunk_rows - from / d.layout.chunk_rows) * chunks_across d else 0

-- the number of the chunk of a row and a column among those that rows from `from` on touch, in rising order of keys
abbrev pub chunk_number : Described → ℕ → ℕ → ℕ → ℕ
chunk_number d from row column = (row / d.layout.chunk_rows - from / d.layout.chunk_rows) * chunks_across d + column / d.layout.chunk_cols

-- the first line of keys of a band: in an array each chunk is a line of its own
abbrev pub first_line : Described → ℕ → ℕ
first_line d band = elim d.layout.index [ Array ↦ band * chunks_across d | Tree ↦ band ]

-- the key of touched chunk k of rows from `from` on
abbrev pub touched_key : Described → ℕ → ℕ → Key
touched_key d from k = index_key d (from / d.layout.chunk_rows * chunks_across d + k)

-- the band of rows of touched chunk k
abbrev pub touched_band : Described → ℕ → ℕ → ℕ
touched_band d from k = from / d.layout.chunk_rows + k / chunks_across d

-- the first row of the rows from `from` on in the band of touched chunk k
abbrev pub first_row : Described → ℕ → ℕ → ℕ
first_row d from k = max from ((from / d.layout.chunk_rows + k / chunks_across d) * d.layout.chunk_rows)

-- the first column of touched chunk k
abbrev pub first_column : Described → ℕ → ℕ
first_column d k = k % chunks_across d * d.layout.chunk_cols

-- the share of touched chunk k in the rows `from` up to but not including `to`
abbrev pub share_of : Described → ℕ → ℕ → ℕ → Share
share_of d from to k =
    record {
      first = first_row d from k % d.layout.chunk_rows;
      rows = min (to - first_row d from k) (d.layout.chunk_rows - first_row d from k % d.layout.chunk_rows);
      columns = min d.layout.chunk_cols (d.shape.cols - first_column d k);
      at = ((first_row d from k - from) * d.shape.cols + first_column d k) * d.int_type.size;
    }

-- the cells of row t of a share, among the cells of all new rows
abbrev pub own_row : Described → List ℕ → Share → ℕ → List ℕ
own_row d cells s t = range cells (s.at + t * (d.shape.cols * d.int_type.size)) (s.columns * d.int_type.size)

-- n rows from row t on, each with these bytes behind it
unfoldable pub padded_rows : (ℕ → List ℕ) → List ℕ → ℕ → ℕ → List ℕ
padded_rows row pad t zero = []
padded_rows row pad t (suc n) = row t ++ (pad ++ padded_rows row pad (suc t) n)

-- the rows of a share as a chunk has them: the fill in the cells past the last column
abbrev pub share_rows : Described → List ℕ → Share → List ℕ
share_rows d cells s = padded_rows (own_row d cells s) (copies (d.layout.chunk_cols - s.columns) (fill_cell d)) 0 s.rows

-- n rows from row t on as blocks of their own, a stride apart from a place on
unfoldable pub row_blocks : (ℕ → List ℕ) → ℕ → ℕ → ℕ → ℕ → List (ℕ × List ℕ)
row_blocks row place stride t zero = []
row_blocks row place stride t (suc n) = (place, row t) ∷ row_blocks row (place + stride) stride (suc t) n

-- a chunk's bytes, where the rows of a share are all that it holds
abbrev pub new_chunk : Described → List ℕ → Share → List ℕ
new_chunk d cells s =
    copies (s.first * d.layout.chunk_cols) (fill_cell d)
    ++ (share_rows d cells s ++ copies ((d.layout.chunk_rows - s.first - s.rows) * d.layout.chunk_cols) (fill_cell d))

-- The blocks of a share: a new chunk whole; of a stored one its own cells alone, as the longest ranges.
abbrev pub share_blocks : Described → List ℕ → Share → ChunkPlace → List (ℕ × List ℕ)
share_blocks d cells s p =
    if p.stored then
    (if s.columns == d.layout.chunk_cols then (p.address + s.first * row_len d, share_rows d cells s) ∷ []
    else row_blocks (own_row d cells s) (p.address + s.first * row_len d) (row_len d) 0 s.rows)
    else (p.address, new_chunk d cells s) ∷ []

-- the writes of some blocks, each in pieces of 512 bytes and a rest
unfoldable pub writes_of : List (ℕ × List ℕ) → List Write
writes_of blocks = flat_map (λ (b : ℕ × List ℕ). pieces b.0 b.1) blocks

-- the writes of the touched chunks from chunk k on, which have these places
unfoldable pub writes_from : Described → List ℕ → ℕ → ℕ → ℕ → List ChunkPlace → List Write
writes_from d cells from to k [] = []
writes_from d cells from to k (p ∷ ps) = writes_of (share_blocks d cells (share_of d from to k) p) ++ writes_from d cells from to (suc k) ps

-- the writes of the rows `from` up to but not including `to`, whose cells these are, row by row
abbrev pub new_writes : Described → List ℕ → ℕ → ℕ → List ChunkPlace → List Write
new_writes d cells from to places = writes_from d cells from to 0 places
