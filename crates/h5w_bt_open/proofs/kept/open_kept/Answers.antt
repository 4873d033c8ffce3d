use Rattle.std.proofs.Common.{◌∙◌, ap, Some}
use Rattle.h5w_bt_index.specs.Held.{view_of}
use Rattle.h5w_bt_open.specs.declared.kept.Flaw.{Flaw}
use Rattle.h5w_bt_open.proofs.kept.open_kept.Goals as goal

pub returns-in-Ok-None-clause-kept : goal.returns-in-Ok-None-clause-kept
returns-in-Ok-None-clause-kept g c = c.in-Ok-None.ensures.none c.in-Ok-None.field-0-is

pub returns-in-Ok-None-clause-exact : goal.returns-in-Ok-None-clause-exact
returns-in-Ok-None-clause-exact g c = λ img still. record {
  short = still.short;
  standing = c.in-Ok.ensures.opened img still;
  kept = c.in-Ok-None.ensures.none c.in-Ok-None.field-0-is;
}

pub returns-in-Ok-Some-Totals-clause-exact : goal.returns-in-Ok-Some-Totals-clause-exact
returns-in-Ok-Some-Totals-clause-exact g c = λ img still. record {
  tree = view_of c.in-Ok.tree;
  standing = c.in-Ok.ensures.opened img still;
  shaped = c.in-Ok.ensures.shape;
  wrong = c.in-Ok-Some-Totals.ensures.totals (c.in-Ok-Some-Totals.field-0-is ∙ ap (λ (f : Flaw). Some f) c.in-Ok-Some-Totals.field-0-0-is);
}

pub returns-in-Ok-Some-Order-clause-exact : goal.returns-in-Ok-Some-Order-clause-exact
returns-in-Ok-Some-Order-clause-exact g c = λ img still. record {
  tree = view_of c.in-Ok.tree;
  standing = c.in-Ok.ensures.opened img still;
  shaped = c.in-Ok.ensures.shape;
  sound = c.in-Ok-Some-Order.ensures.sound (c.in-Ok-Some-Order.field-0-is ∙ ap (λ (f : Flaw). Some f) c.in-Ok-Some-Order.field-0-0-is);
  unordered = c.in-Ok-Some-Order.ensures.order (c.in-Ok-Some-Order.field-0-is ∙ ap (λ (f : Flaw). Some f) c.in-Ok-Some-Order.field-0-0-is);
}
