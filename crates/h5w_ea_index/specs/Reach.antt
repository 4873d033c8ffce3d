-- The six numbers of an array's header, and which chunks readers look for by them.
use Rattle.std.specs.Prelude.{◌≢◌, ℕ, ◌<◌, List, slice_index_or}
use Rattle.h5w_model.specs.Numbers.{undefined}
use Rattle.h5w_model.specs.Arrays.{numbers_in}
use Rattle.h5w_cache.specs.Stores.{Store}
use Rattle.h5w_array_laws.specs.Parts.{header}
use Rattle.h5w_array_laws.specs.ArrayStores.{bytes_at_part, map_of}

-- secondary blocks, their bytes, data blocks, their bytes, max index set, number of elements
abbrev pub six : Store → List ℕ
six v = numbers_in (bytes_at_part v header) 6 12

abbrev pub number_at : ℕ → Store → ℕ
number_at i v = slice_index_or (six v) i 0

-- the number from which on HDF5's library takes each chunk for one without an address
abbrev pub max_index_set : Store → ℕ
max_index_set v = number_at 4 v

-- a chunk is below it, so that its address is looked for
abbrev pub IsReached : ℕ → Store → Type 0
IsReached i v = i < max_index_set v

-- what was reached and has an address is reached
abbrev pub KeepsReach : Store → Store → Type 0
KeepsReach v w = (i : ℕ) → map_of w i ≢ undefined → IsReached i v → IsReached i w
