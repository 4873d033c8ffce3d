use Rattle.std.proofs.Common.{◌≡◌, drop}
use Rattle.h5w_cache.specs.Plans.{cleaned}
use Rattle.h5w_cache.proofs.settle.clean.Given as goal

abbrev pub invariant-loop-block_move : goal.invariant-loop-block_move
invariant-loop-block_move l = cleaned (drop l.block_move-index l.moves) l.marks ≡ cleaned l.moves l.initial.marks
