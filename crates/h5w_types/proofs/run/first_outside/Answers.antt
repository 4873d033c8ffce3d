use Rattle.std.proofs.Common.{rules, ◌≡◌, ◌∙◌, to_z, of_z, get_or, pos, sym, ap, Some, ℤ}
use Rattle.std.specs.Int.{w128}
use Rattle.h5w_types.specs.Fields.{int_type_of}
use Rattle.h5w_types.proofs.RunLemmas.{above_greatest, below_least, between}
use Rattle.h5w_types.proofs.run.first_outside.Goals.{then-v-least-via-then-v-least, then-v-least-via-else-v-least+then-above-v}
use Rattle.h5w_types.proofs.run.first_outside.Goals as goal

pub returns-then-v-least : goal.returns-then-v-least
returns-then-v-least c =
    let values = c.args.values.now in
    let i = c.loop-i.i in
    let t = int_type_of c.args.t.now in
    let v = get_or values i (pos 0) in
    let b = c.bounds-least.result in
    let is : to_z w128 (of_z w128 v) ≡ v = search rules in
    let least : to_z w128 (of_z w128 b.0) ≡ b.0 = search rules in
    let above : to_z w128 (of_z w128 b.1) ≡ b.1 = search rules in
    ap (λ (x : ℤ). Some (i, x)) is ∙ elim c.then-v-least.branch [
      | then-v-least-via-then-v-least w ↦ sym (below_least t b.0 b.1 values i c.bounds-least.ensures c.loop-i-test.true (cc)) ∙ c.loop-i.invariant
      | then-v-least-via-else-v-least+then-above-v w ↦ sym (above_greatest t b.0 b.1 values i c.bounds-least.ensures c.loop-i-test.true (cc) (cc)) ∙ c.loop-i.invariant
    ]

pub loop-i-preserved : goal.loop-i-preserved
loop-i-preserved c =
    let values = c.args.values.now in
    let i = c.loop-i.i in
    let t = int_type_of c.args.t.now in
    let v = get_or values i (pos 0) in
    let b = c.bounds-least.result in
    let is : to_z w128 (of_z w128 v) ≡ v = search rules in
    let least : to_z w128 (of_z w128 b.0) ≡ b.0 = search rules in
    let above : to_z w128 (of_z w128 b.1) ≡ b.1 = search rules in
    sym (between t b.0 b.1 values i c.bounds-least.ensures c.loop-i-test.true (cc) (cc)) ∙ c.loop-i.invariant
