use Rattle.std.proofs.Common.{◌≡◌, replicate}
use Rattle.h5w_several_core.specs.Places.{vacant}
use Rattle.h5w_several_core.proofs.world.places.Given as goal

abbrev pub invariant-loop : goal.invariant-loop
invariant-loop l = l.places.items ≡ replicate l.counter vacant
