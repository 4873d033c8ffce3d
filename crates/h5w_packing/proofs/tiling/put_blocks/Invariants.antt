use Rattle.std.proofs.Common.{◌≡◌, ◌++◌}
use Rattle.std.specs.Prelude.{drop}
use Rattle.h5w_packing.specs.Plans.{move_tiles}
use Rattle.h5w_packing.proofs.tiling.put_blocks.Given as goal

abbrev pub invariant-loop-block : goal.invariant-loop-block
invariant-loop-block l = l.ranges ++ move_tiles l.index (drop l.block-index l.moves) ≡ l.initial.ranges ++ move_tiles l.index l.moves
