use Rattle.std.proofs.Common.{take}
use Rattle.h5w_deps.specs.Walk.{Follows}
use Rattle.h5w_deps.proofs.walk.follow.Given as goal

abbrev pub invariant-loop-edge : goal.invariant-loop-edge
invariant-loop-edge l = Follows (take l.edge-index l.edges) l.block l.fn.reached.items l.reached.items
