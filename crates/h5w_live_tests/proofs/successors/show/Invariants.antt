use Rattle.std.proofs.Common.{◌≡◌}
use Rattle.h5w_live_tests.proofs.successors.show.Given as goal

abbrev pub invariant-loop : goal.invariant-loop
invariant-loop g l = l.seat.image ≡ l.image
