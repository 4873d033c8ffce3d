use Rattle.std.proofs.Common.{◌≡◌, ℕ, List, ◌++◌, take, ◌∙◌, ap}
use Rattle.h5w_model.specs.Headers.{cont_of, conts_of}
use Rattle.h5w_ohdr.proofs.Capped.{capped_step, capped_same}
use Rattle.h5w_ohdr.proofs.conts.continuations.Goals as goal
use Rattle.h5w_ohdr.proofs.conts.continuations.Goals.{in-Some, in_default}

pub loop-m-preserved : goal.loop-m-preserved
loop-m-preserved c =
    let one = λ (new : List (ℕ × ℕ)) (e : new ≡ take 33 (c.loop-m.conts ++ cont_of c.m-item.result)). capped_step 33 cont_of c.as_slice-m-items.result.now c.loop-m.m-index c.m-item.result c.loop-m.conts new c.loop-m-test.true c.m-item.is c.loop-m.invariant e in
    let added = λ (xs : List (ℕ × ℕ)). take 33 (c.loop-m.conts ++ xs) in
    let nothing = capped_same 33 c.loop-m.conts (conts_of (take c.loop-m.m-index c.as_slice-m-items.result.now)) c.loop-m.invariant in
    elim c.match-cont_of.branch [
      | in-Some w ↦ one c.match-cont_of.conts (w.conts-is ∙ w.add.ensures ∙ ap added w.in-Some.ensures)
      | in_default w ↦ one c.match-cont_of.conts (w.conts-is ∙ nothing ∙ ap added (rw (w.in_default.is) at c.cont_of.ensures))
    ]
