use Rattle.std.proofs.Common.{◌∙◌, List, sym, subst}
use Rattle.std.proofs.lemmas.Bool.{both_ways}
use Rattle.h5w_model.specs.Trees.{capacity_of}
use Rattle.h5w_bt.specs.declared.records.Record.{Record}
use Rattle.h5w_bt_index.specs.Held.{view_of}
use Rattle.h5w_bt_index.specs.Sound.{IsRising, IsSound}
use Rattle.h5w_bt_index.specs.Index.{Index}
use Rattle.h5w_bt_open.proofs.KeptLemmas.{kept_index}
use Rattle.h5w_bt_open.proofs.kept.first_flaw.Goals as goal

abbrev SoundIndex : Index → Type 0
SoundIndex v = IsSound v.depth (capacity_of v.depth) v.root

pub returns-then-not-has_true_totals-clause-totals : goal.returns-then-not-has_true_totals-clause-totals
returns-then-not-has_true_totals-clause-totals c = λ _ sound.
    both_ways c.has_true_totals.result c.if-not-has_true_totals.true (c.has_true_totals.ensures.1 (subst SoundIndex (sym c.root.ensures) sound))

pub returns-then-is_rising-clause-none : goal.returns-then-is_rising-clause-none
returns-then-is_rising-clause-none c = λ _.
    kept_index (view_of c.args.tree.now) c.requires (subst SoundIndex c.root.ensures (c.has_true_totals.ensures.0 c.if-not-has_true_totals.false))
    (subst (λ (rs : List Record). IsRising rs) (c.deref.ensures.value ∙ c.in_ok-all.ensures) (c.is_rising.ensures.0 c.if-is_rising.true))

pub returns-clause-sound : goal.returns-clause-sound
returns-clause-sound c = λ _. subst SoundIndex c.root.ensures (c.has_true_totals.ensures.0 c.if-not-has_true_totals.false)

pub returns-clause-order : goal.returns-clause-order
returns-clause-order c = λ _ rises.
    both_ways c.is_rising.result c.if-is_rising.false (c.is_rising.ensures.1 (subst (λ (rs : List Record). IsRising rs) (sym (c.deref.ensures.value ∙ c.in_ok-all.ensures)) rises))
