-- How many pieces the writes of rows have at most.
use Rattle.std.specs.Prelude.{ℕ, suc, ◌+◌, ◌-◌, ◌*◌, ◌/◌, min, ◌==◌, if◌then◌else◌, List, [], ◌∷◌}
use Rattle.h5w_model.specs.Datasets.{Described}
use Rattle.h5w_chunks.specs.Grids.{chunk_len, row_len}
use Rattle.h5w_chunks.specs.Shares.{share_of}
use Rattle.h5w_chunks.specs.declared.grid.ChunkPlace.{ChunkPlace}

-- how many pieces so many bytes have
abbrev pub pieces_in : ℕ → ℕ
pieces_in bytes = (bytes + 511) / 512

-- how many pieces the rows `from` up to but not including `to` have at most in a stored chunk, of whose columns the dataset has so many
abbrev pub own_pieces : Described → ℕ → ℕ → ℕ → ℕ
own_pieces d from to columns =
    if columns == d.layout.chunk_cols then pieces_in (min (to - from) d.layout.chunk_rows * row_len d)
    else min (to - from) d.layout.chunk_rows * pieces_in (columns * d.int_type.size)

-- of touched chunk k, which has this place: a new chunk is written whole
abbrev pub chunk_pieces : Described → ℕ → ℕ → ℕ → ChunkPlace → ℕ
chunk_pieces d from to k p = if p.stored then own_pieces d from to (share_of d from to k).columns else pieces_in (chunk_len d)

-- how many pieces the writes of these rows have at most in the touched chunks from chunk k on, which have these places
unfoldable pub most_pieces : Described → ℕ → ℕ → ℕ → List ChunkPlace → ℕ
most_pieces d from to k [] = 0
most_pieces d from to k (p ∷ ps) = chunk_pieces d from to k p + most_pieces d from to (suc k) ps
