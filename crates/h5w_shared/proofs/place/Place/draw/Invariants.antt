use Rattle.h5w_shared.specs.Places.{AtRest, Keeps}
use Rattle.h5w_shared.proofs.place.Place.draw.Given as goal

abbrev pub invariant-loop : goal.invariant-loop
invariant-loop g l =
    (goal.iterator-loop g).can_next l.iterator' × (goal.iterator-loop g).is_finite l.iterator'
    × AtRest l.self × Keeps l.fn.self l.self
