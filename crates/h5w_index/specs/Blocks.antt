-- Whether the blocks in place of an index are made.
use Rattle.std.specs.Prelude.{◌==◌, Bool, false}
use Rattle.h5w_array_laws.specs.Parts.{index_block}
use Rattle.h5w_array_laws.specs.ArrayStores.{place_at_part}
use Rattle.h5w_index.specs.Views.{IndexView, an_array, a_tree}

-- it is an array whose index block is not made yet: its place is 0, where the superblock stands
abbrev pub has_no_block : IndexView → Bool
has_no_block (an_array v) = place_at_part v index_block == 0
has_no_block (a_tree place v) = false
