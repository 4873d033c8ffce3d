use Rattle.std.proofs.Common.{rules, sym, ap, ◌∙◌}
use Rattle.std.specs.Prelude.{get_or, pos, ◌+ℤ◌, take}
use Rattle.std.specs.Int.{int_wrap, w128}
use Rattle.std.proofs.lemmas.Int.{int_wrap-add_left, wrapping_add_onto}
use Rattle.h5w_model.specs.Agrees.{total}
use Rattle.h5w_live_reading.proofs.ReadingLemmas.{total_next}
use Rattle.h5w_live_reading.proofs.reading.sum_of.Goals as goal

pub loop-value-preserved : goal.loop-value-preserved
loop-value-preserved c =
    let vs = c.args.values.now in
    let i = c.loop-value.value-index in
    wrapping_add_onto w128 c.loop-value.sum-bits (get_or vs i (pos 0)) (search rules) (search rules) ∙ ap (λ s. int_wrap w128 (s +ℤ get_or vs i (pos 0))) c.loop-value.invariant
    ∙ int_wrap-add_left w128 (total (take i vs)) (get_or vs i (pos 0)) ∙ ap (int_wrap w128) (sym (total_next vs i (search rules)))
