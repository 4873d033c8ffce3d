use Rattle.std.proofs.Common.{◌≡◌, ◌∙◌, sym, length, arith}
use Rattle.std.proofs.lemmas.List.{nil_from_length}
use Rattle.h5w_headers.proofs.WalkLemmas.{pass_step, pass_visit, pass_end}
use Rattle.h5w_headers.proofs.walk.pass.Goals as goal

pub loop-m-preserved : goal.loop-m-preserved
loop-m-preserved c = λ visit visited.
    rw c.in_ok-push.ensures.items (pass_step visit visited c.loop-m.done.items c.loop-m.next.items c.pop.new.self.items c.in-Some.m c.in-Some.ensures.items c.if-m-eq-CONTINUATION.false ∙ c.loop-m.invariant visit visited)

pub returns-then-m-eq-CONTINUATION-clause-passed : goal.returns-then-m-eq-CONTINUATION-clause-passed
returns-then-m-eq-CONTINUATION-clause-passed c = λ visit visited.
    sym (c.loop-m.invariant visit visited) ∙ pass_visit visit visited c.loop-m.done.items c.loop-m.next.items c.pop.new.self.items c.in-Some.m c.in-Some.ensures.items c.if-m-eq-CONTINUATION.true

pub returns-clause-passed : goal.returns-clause-passed
returns-clause-passed c = λ visit visited.
    let none : length c.loop-m.next.items ≡ 0 = omega (arith, c.in_default.ensures.cases.0, c.loop-m.next.ok.0) in
    sym (c.loop-m.invariant visit visited) ∙ pass_end visit visited c.loop-m.done.items c.loop-m.next.items (nil_from_length c.loop-m.next.items none)
