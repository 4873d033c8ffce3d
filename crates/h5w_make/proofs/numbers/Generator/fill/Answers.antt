use Rattle.std.proofs.Common.{rules, ◌≡◌, ◌+◌, ◌-◌, ◌++◌, ◌∷◌, [], pos, ◌<◌, ℕ, ℤ, List, arith, ap, ◌∙◌}
use Rattle.h5w_make.specs.Generators.{generated, next_state, number_of, state_after}
use Rattle.h5w_make.proofs.GeneratorLemmas.{filled, stepped}
use Rattle.h5w_make.proofs.numbers.Generator.fill.Goals as goal

pub loop-preserved : goal.loop-preserved
loop-preserved c =
    let x = c.loop.self.state in
    let left = c.args.count - c.loop.counter in
    let some : 0 < left = omega (arith, c.loop-test.true) in
    let fewer : c.args.count - (c.loop.counter + 1) ≡ left - 1 = omega arith in
    let next : c.next.new.self.state ≡ next_state x = c.next.ensures.state in
    let pushed : c.push.new.self.items ≡ c.loop.values.items ++ pos (number_of (next_state x)) ∷ [] = search rules in
    let values = filled c.loop.values.items x left (generated c.args.self.now.state c.args.count) some c.loop.invariant.0 in (
      ap (λ (vs : List ℤ). vs ++ generated c.next.new.self.state (c.args.count - (c.loop.counter + 1))) pushed
          ∙ ap (λ (y : ℕ). (c.loop.values.items ++ pos (number_of (next_state x)) ∷ []) ++ generated y (c.args.count - (c.loop.counter + 1))) next
          ∙ ap (λ (n : ℕ). (c.loop.values.items ++ pos (number_of (next_state x)) ∷ []) ++ generated (next_state x) n) fewer
          ∙ values,
      ap (λ (y : ℕ). state_after y (c.args.count - (c.loop.counter + 1))) next ∙ ap (state_after (next_state x)) fewer ∙ stepped x left some ∙ c.loop.invariant.1,
    )
