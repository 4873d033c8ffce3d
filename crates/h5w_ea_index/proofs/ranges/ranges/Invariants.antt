use Rattle.std.proofs.Common.{◌≡◌, ◌++◌}
use Rattle.h5w_array_laws.specs.Parts.{header, index_block}
use Rattle.h5w_ea_index.specs.Ranges.{each_below, range_of_part, ranges_of_super_block}
use Rattle.h5w_ea_index.proofs.ranges.ranges.Given as goal

abbrev pub invariant-loop-sblock : goal.invariant-loop-sblock
invariant-loop-sblock l = l.ranges.items ≡ (range_of_part l.cache header ++ range_of_part l.cache index_block) ++ each_below (ranges_of_super_block l.first l.cache) l.sblock
