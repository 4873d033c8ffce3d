use Rattle.std.proofs.Common.{arith, rules, take, drop, ◌-◌, ◌≡◌, ◌∷◌, ◌++◌, ◌∙◌, sym, subst, [], List, ℕ, to_z, of_z, length, length-drop}
use Rattle.std.specs.Int.{w128}
use Rattle.std.proofs.lemmas.List.{append_assoc, append-nil, take_all}
use Rattle.h5w_input.specs.WordLists.{IsAlone}
use Rattle.h5w_input.proofs.LineLemmas.{next_single, singles_none}
use Rattle.h5w_input.proofs.intake.Intake.values_ahead.Goals as goal

pub loop-held-init : goal.loop-held-init
loop-held-init c = let i = c.self.inside in
    ([], sym (append-nil c.args.values.now.items), singles_none (take (i.end - i.at) (drop i.at c.deref.result.now)))

pub loop-held-preserved : goal.loop-held-preserved
loop-held-preserved c = let i = c.self.inside in
    let held : List ℕ = take (i.end - i.at) (drop i.at c.deref.result.now) in
    let inv = c.loop-held.invariant in
    let at = c.loop-held.at in
    let v = c.in-Some.value in
    let is : to_z w128 (of_z w128 v) ≡ v = search rules in
    let all : take (length held - at) (drop at held) ≡ drop at held = take_all _ _ (omega (arith, length-drop at held)) in
    let alone = subst (λ (bytes : List ℕ). IsAlone bytes c.in-Some.len v) all c.in-Some.ensures in (
      inv.0 ++ v ∷ [],
      c.push_reserved.ensures.items ∙ (λ j. inv.1 j ++ is j ∷ []) ∙ append_assoc c.args.values.now.items inv.0 (v ∷ []),
      next_single inv.0 at c.in-Some.len held v inv.2 alone,
    )

pub returns-in_default : goal.returns-in_default
returns-in_default c = let value = c.deref.ensures.value in rw (← c.self.view_is) (rw value at c.loop-held.invariant)

pub returns-after-loop-held : goal.returns-after-loop-held
returns-after-loop-held c = let value = c.deref.ensures.value in rw (← c.self.view_is) (rw value at c.loop-held.invariant)
