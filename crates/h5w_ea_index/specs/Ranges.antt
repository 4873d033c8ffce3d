-- The ranges of the blocks of an array, in the order in which they are looked at.
use Rattle.std.specs.Prelude.{ℕ, zero, suc, ◌==◌, List, [], ◌∷◌, ◌++◌, nat_lt, if◌then◌else◌}
use Rattle.h5w_model.specs.Arrays.{super_block_of}
use Rattle.h5w_space.specs.declared.Extent.{Extent}
use Rattle.h5w_space.specs.Ranges.{range_at}
use Rattle.h5w_cache.specs.Stores.{Store}
use Rattle.h5w_array_laws.specs.Parts.{Part, data_of, secondary_of, index_block, header, length_of}
use Rattle.h5w_array_laws.specs.ArrayStores.{place_at_part}
use Rattle.h5w_ea_index.specs.Opened.{past}

-- what comes of each number below one, in rising order
unfoldable pub each_below : {A : Type 0} → (ℕ → List A) → ℕ → List A
each_below f zero = []
each_below f (suc n) = each_below f n ++ f n

abbrev pub range_of_part : Store → Part → List Extent
range_of_part v k = range_at (place_at_part v k) (length_of k)

-- that of a block, if it leads to a chunk number from one on
abbrev pub range_from : ℕ → Store → Part → List Extent
range_from first v k = if nat_lt first (past k) then range_of_part v k else []

-- those of the data blocks of a super block
abbrev pub ranges_of_data : ℕ → Store → ℕ → List Extent
ranges_of_data first v s = each_below (λ b. range_from first v (data_of s b)) (super_block_of s).blocks

-- that of its secondary block, if it has one, and those
abbrev pub ranges_of_super_block : ℕ → Store → ℕ → List Extent
ranges_of_super_block first v s = (if nat_lt s 4 then [] else range_from first v (secondary_of s)) ++ ranges_of_data first v s

-- the header's, the index block's, and those of the blocks of all super blocks that lead to a chunk number from one on
abbrev pub block_ranges : ℕ → Store → List Extent
block_ranges first v = (range_of_part v header ++ range_of_part v index_block) ++ each_below (ranges_of_super_block first v) 13
