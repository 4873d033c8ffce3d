use Rattle.std.proofs.Common.{◌≡◌}
use Rattle.h5w_live.proofs.following.follow_all.Given as goal

abbrev pub invariant-loop : goal.invariant-loop
invariant-loop g l = (l.follow.seat.image ≡ l.first) × (l.follow.second.image ≡ l.second)
