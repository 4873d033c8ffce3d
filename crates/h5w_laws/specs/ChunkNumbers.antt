-- The chunks of a dataset by number.
use Rattle.std.specs.Prelude.{◌≡◌, ◌↔◌, ℕ, ◌<◌, List, map, flat_map, get_or, slice_get, Some}
use Rattle.std.specs.List.{range_with_len}
use Rattle.h5w_model.specs.Numbers.{undefined}
use Rattle.h5w_model.specs.Datasets.{Described}
use Rattle.h5w_model.specs.Tables.{bands, chunks_across, needed, needed_keys, chunk_number}
use Rattle.h5w_model.specs.Relations.{HasChunk, HasGrid}
use Rattle.h5w_model.specs.declared.cell.Key.{Key}
use Rattle.h5w_model.specs.declared.cell.IndexKind.{IndexKind}
use Rattle.h5w_model.specs.declared.cell.IndexKind.TheVariants.{Array, Tree}

-- the places of the grid of chunks: band by band, and in each side by side
abbrev pub grid_places : Described → List Key
grid_places d = flat_map (λ row. map (λ column. record { i = row; j = column }) (range_with_len 0 (chunks_across d))) (range_with_len 0 (bands d))

-- the key of the chunk of a number and of its place in the grid: an array counts, a tree has the place
abbrev pub placed_key : IndexKind → ℕ → ℕ → ℕ → Key
placed_key Array number i j = record { i = number; j = 0 }
placed_key Tree number i j = record { i = i; j = j }

-- The chunks of the grid, band by band and in each side by side, have the numbers from 0 on, without a gap, rising; and their keys in
-- the index are the needed keys, in this order. A table of these has at the number of a place what belongs to its key.
pub record NumbersChunks : Type 0 where
  pub numbered : (d : Described) → map (λ (k : Key). chunk_number d k.i k.j) (grid_places d) ≡ range_with_len 0 (needed d)
  pub keys : (d : Described) → map (λ (k : Key). placed_key d.layout.index (chunk_number d k.i k.j) k.i k.j) (grid_places d) ≡ needed_keys d
  pub table : (f : Key → ℕ) (none : ℕ) (d : Described) (i j : ℕ) → i < bands d → j < chunks_across d
      → get_or (map f (needed_keys d)) (chunk_number d i j) none ≡ f (placed_key d.layout.index (chunk_number d i j) i j)

-- the chunk of each of these keys has the address that is listed at its number
abbrev pub HasKeys : List ℕ → Described → List Key → List ℕ → Type 0
HasKeys img d keys table = (k : ℕ) (key : Key) → slice_get keys k ≡ Some key → HasChunk img d key (get_or table k undefined)

-- by the needed keys of the index and by places in the grid the same is said of a table
abbrev pub PlacesChunks : Type 0
PlacesChunks = (img table : List ℕ) (d : Described) → HasKeys img d (needed_keys d) table ↔ HasGrid img d table
