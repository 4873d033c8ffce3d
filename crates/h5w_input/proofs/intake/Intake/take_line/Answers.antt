use Rattle.std.proofs.Common.{arith, take, drop, ◌-◌}
use Rattle.std.proofs.lemmas.List.{length-take}
use Rattle.h5w_input.proofs.LineLemmas.{cut_here}
use Rattle.h5w_input.proofs.intake.Intake.take_line.Goals as goal

pub returns-in-Ok-clause-taken : goal.returns-in-Ok-clause-taken
returns-in-Ok-clause-taken c = let i = c.self.inside in let value = c.deref.ensures.value in
    let cut = c.first_place-len.ensures.found (omega arith) in
    λ _. rw (← c.self.view_is) (
      take c.first_place-len.result (take (i.end - i.at) (drop i.at i.buffer.items)),
      cut_here i.at i.end c.first_place-len.result i.buffer.items i.more i.limit (omega (arith, length-take (i.end - i.at) (drop i.at c.deref.result.now))) (rw value at c.first_place-len.ensures.lacks) (rw value at cut),
      rw value at c.in-Ok.ensures,
    )
