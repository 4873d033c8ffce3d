use Rattle.std.proofs.Common.{◌≡◌, ◌++◌, ◌∙◌, ℤ, pos, ap, get_or, arith, rules, to_z, of_z}
use Rattle.std.specs.Int.{w128}
use Rattle.h5w_text.specs.Replies.{spaced_value}
use Rattle.h5w_text.proofs.ValueLemmas.{more_texts}
use Rattle.h5w_text.proofs.reply.values.Goals as goal

pub offset_bounds-values-v-index : goal.offset_bounds-values-v-index
offset_bounds-values-v-index c = omega arith

pub bounds-values-v-index : goal.bounds-values-v-index
bounds-values-v-index c = omega arith

pub loop-v-preserved : goal.loop-v-preserved
loop-v-preserved c =
    let v : ℤ = get_or c.args.values.now c.loop-v.v-index (pos 0) in
    let same : to_z w128 (of_z w128 v) ≡ v = search rules in
    more_texts spaced_value (pos 0) c.args.values.now c.loop-v.v-index c.args.out.now.items c.loop-v.out.items c.value.new.out.items (omega arith) c.loop-v.invariant
    (c.in_ok-value.ensures ∙ ap (λ (z : ℤ). c.loop-v.out.items ++ spaced_value z) same)
