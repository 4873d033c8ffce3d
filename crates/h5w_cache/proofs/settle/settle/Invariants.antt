use Rattle.std.proofs.Common.{◌≡◌, drop}
use Rattle.h5w_cache.specs.Plans.{moved}
use Rattle.h5w_cache.proofs.settle.settle.Given as goal

abbrev pub invariant-loop-block_move : goal.invariant-loop-block_move
invariant-loop-block_move l = moved (drop l.block_move-index l.moves) l.places ≡ moved l.moves l.initial.places
