use Rattle.std.proofs.Common.{◌≡◌, ◌++◌}
use Rattle.h5w_array_laws.specs.Parts.{data_of}
use Rattle.h5w_ea_index.specs.Ranges.{each_below, range_from}
use Rattle.h5w_ea_index.proofs.ranges.put_data.Given as goal

abbrev pub invariant-loop-block : goal.invariant-loop-block
invariant-loop-block l = l.ranges.items ≡ l.initial.ranges.items ++ each_below (λ b. range_from l.first l.cache (data_of l.sblock b)) l.block
