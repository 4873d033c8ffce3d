use Rattle.std.proofs.Common.{arith, rules, take, drop, ◌-◌, ◌≡◌, ◌∷◌, ◌∙◌, ap, sym, [], Some}
use Rattle.std.proofs.lemmas.List.{length-take, length-take-le}
use Rattle.h5w_input.proofs.LineLemmas.{cut_here}
use Rattle.h5w_input.proofs.ScriptLemmas.{one_value}
use Rattle.h5w_input.proofs.intake.Intake.take_value.Goals as goal

pub returns-clause-taken : goal.returns-clause-taken
returns-clause-taken c = let i = c.self.inside in let value = c.deref.ensures.value in
    let len = c.in-Some.len in
    let held = take (i.end - i.at) (drop i.at c.deref.result.now) in
    let alone = c.in-Some.ensures in
    let items : c.push.new.self.items ≡ c.in-Some.value ∷ [] = search rules in
    let long = length-take-le len held alone.first.within in
    let spelled = one_value (take len held) c.in-Some.value (omega (arith, long, alone.first.some)) (omega (arith, long, alone.first.few)) alone.first.lacks alone.first.value ∙ ap Some (sym items) in
    λ _. rw (← c.self.view_is) (
      take len (take (i.end - i.at) (drop i.at i.buffer.items)),
      cut_here i.at i.end len i.buffer.items i.more i.limit (omega (arith, alone.inside, length-take (i.end - i.at) (drop i.at c.deref.result.now))) (rw value at alone.first.line) (rw value at alone.ends),
      rw value at spelled,
    )
