use Rattle.std.proofs.Common.{◌≡◌, take}
use Rattle.std.specs.List.{sum_by}
use Rattle.h5w_cache.specs.Plans.{piece_count}
use Rattle.h5w_cache.proofs.write.count.Given as goal

abbrev pub invariant-loop-block_move : goal.invariant-loop-block_move
invariant-loop-block_move l = l.count ≡ sum_by piece_count (take l.block_move-index l.moves)
