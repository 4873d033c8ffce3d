use Rattle.h5w_shared.specs.Places.{AtRest, Unchanged}
use Rattle.h5w_shared.proofs.place.Place.give_way.Given as goal

abbrev pub invariant-loop : goal.invariant-loop
invariant-loop l = AtRest l.self × Unchanged l.fn.self l.self
