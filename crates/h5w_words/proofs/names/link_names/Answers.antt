use Rattle.std.proofs.Common.{◌∙◌, map, ap, sym, subst, inr}
use Rattle.h5w_words.proofs.NameLemmas.{AreTaken, all_parts, at_most_8, next_taken, none_taken, not_all, some_parts, sound_names}
use Rattle.h5w_words.proofs.names.link_names.Goals as goal

pub loop-part-init : goal.loop-part-init
loop-part-init c = (c.new-names.ensures, subst AreTaken (sym c.new-names.ensures) none_taken)

pub loop-part-preserved : goal.loop-part-preserved
loop-part-preserved c =
    next_taken _ c.loop-part.names c.push.new.self c.deref-part-items.result.now c.loop-part.part-index _ c.as_bytes.result.now c.as_bytes-in-loop-part.result.now c.loop-part-test.true c.loop-part.invariant.0 c.loop-part.invariant.1
    c.as_bytes.ensures.value c.as_bytes-in-loop-part.ensures.value (sym c.may_follow.ensures ∙ c.if-not-may_follow.false) c.in_ok-push.ensures.ok

pub returns-then-not-may_follow-clause-usage : goal.returns-then-not-may_follow-clause-usage
returns-then-not-may_follow-clause-usage c =
    inr (not_all _ c.args.text.now c.loop-part.names c.deref-part-items.result.now c.loop-part.part-index _ c.loop-part-test.true c.loop-part.invariant.0
    (ap (map _) c.deref-part-items.ensures.value ∙ c.in_ok-parts.ensures) c.as_bytes.ensures.value (sym c.may_follow.ensures ∙ c.if-not-may_follow.true))

pub returns-clause-ok : goal.returns-clause-ok
returns-clause-ok c =
    all_parts _ c.args.text.now c.loop-part.names c.deref-part-items.result.now c.loop-part.part-index c.loop-part-test.false c.loop-part.invariant.0
    (ap (map _) c.deref-part-items.ensures.value ∙ c.in_ok-parts.ensures) c.loop-part.invariant.1

pub returns-clause-bounds : goal.returns-clause-bounds
returns-clause-bounds c = (
  some_parts _ c.args.text.now c.loop-part.names c.deref-part-items.result.now c.loop-part.part-index c.loop-part-test.false c.loop-part.invariant.0
      (ap (map _) c.deref-part-items.ensures.value ∙ c.in_ok-parts.ensures),
  at_most_8 c.loop-part.names c.loop-part.invariant.1,
)

pub returns-clause-sound : goal.returns-clause-sound
returns-clause-sound c =
    sound_names c.args.text.now c.loop-part.names
    (all_parts _ c.args.text.now c.loop-part.names c.deref-part-items.result.now c.loop-part.part-index c.loop-part-test.false c.loop-part.invariant.0 (ap (map _) c.deref-part-items.ensures.value ∙ c.in_ok-parts.ensures)
    c.loop-part.invariant.1)
