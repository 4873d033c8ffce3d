use Rattle.std.proofs.Common.{◌≡◌, ◌∙◌, length, arith}
use Rattle.std.proofs.lemmas.List.{nil_from_length}
use Rattle.h5w_reader.proofs.WalkLemmas.{go_step, go_end}
use Rattle.h5w_reader.proofs.walk.Walk.go_on.Goals as goal

pub loop-m-preserved : goal.loop-m-preserved
loop-m-preserved c =
    let s = c.args.self in
    rw c.in_ok-push.ensures.items (go_step s.more s.header s.tracked c.loop-m.done.items c.loop-m.next.items c.pop.new.self.items c.in-Some.m c.in-Some.ensures.items c.if-m-eq-CONTINUATION.false ∙ c.loop-m.invariant)

pub returns : goal.returns
returns c =
    let s = c.args.self in
    let none : length c.loop-m.next.items ≡ 0 = omega (arith, c.in_default.ensures.cases.0, c.loop-m.next.ok.0) in
    go_end s.more s.header s.tracked c.loop-m.done.items c.loop-m.next.items c.pop.new.self.items (nil_from_length c.loop-m.next.items none) ∙ c.loop-m.invariant
