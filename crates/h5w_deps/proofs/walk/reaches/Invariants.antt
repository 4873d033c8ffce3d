use Rattle.std.proofs.Common.{◌-◌, ◌^◌}
use Rattle.h5w_deps.proofs.WalkLemmas.{IsWalked}
use Rattle.h5w_deps.proofs.walk.reaches.Given as goal

abbrev pub invariant-loop-next : goal.invariant-loop-next
invariant-loop-next l = IsWalked l.edges.items l.from l.to l.reached.items l.next

abbrev pub decreases-loop-next : goal.decreases-loop-next
decreases-loop-next l = 2 ^ 32 - l.next
