use Rattle.std.proofs.Common.{arith, take, drop, ◌-◌}
use Rattle.std.proofs.lemmas.List.{length-take}
use Rattle.h5w_input.proofs.LineLemmas.{cut_all, cut_here}
use Rattle.h5w_input.proofs.intake.Intake.advance.Goals as goal

pub returns-then-place-held-clause-cut : goal.returns-then-place-held-clause-cut
returns-then-place-held-clause-cut c = let i = c.self.inside in let value = c.deref.ensures.value in
    rw (← c.self.view_is) (
      take c.first_place-place.result (take (i.end - i.at) (drop i.at i.buffer.items)),
      cut_all i.at i.end c.first_place-place.result i.buffer.items i.more i.limit (rw value at c.if-place-held.true) (rw value at c.first_place-place.ensures.lacks),
      rw value at c.in_ok-add.ensures,
    )

pub returns-clause-cut : goal.returns-clause-cut
returns-clause-cut c = let i = c.self.inside in let value = c.deref.ensures.value in
    let cut = c.first_place-place.ensures.found (omega arith) in
    rw (← c.self.view_is) (
      take c.first_place-place.result (take (i.end - i.at) (drop i.at i.buffer.items)),
      cut_here i.at i.end c.first_place-place.result i.buffer.items i.more i.limit (omega (arith, length-take (i.end - i.at) (drop i.at c.deref.result.now))) (rw value at c.first_place-place.ensures.lacks) (rw value at cut),
      rw value at c.in_ok-add.ensures,
    )
