use Rattle.std.proofs.Common.{◌≡◌, replicate, None}
use Rattle.h5w_core.proofs.world.places.Given as goal

abbrev pub invariant-loop : goal.invariant-loop
invariant-loop l = l.places.items ≡ replicate l.counter None
