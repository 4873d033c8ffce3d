use Rattle.std.proofs.Common.{ap, is_some, sym, ◌∙◌}
use Rattle.h5w_bt_index.specs.Held.{view_of}
use Rattle.h5w_bt_index.specs.Index.{index_of}
use Rattle.h5w_bt_index.proofs.Replaced.{not_missed, replaced_shaped, replaced_so}
use Rattle.h5w_bt_nodes.proofs.Searched.{none_of}
use Rattle.h5w_bt_index.proofs.index.TreeIndex.replace.Goals as goal

pub returns-then-is_none-clause-exact : goal.returns-then-is_none-clause-exact
returns-then-is_none-clause-exact c i =
    absurd (not_missed (view_of c.args.self.now) c.args.item.key i (c.requires.there i) (sym c.find.ensures ∙ none_of c.find.result (c.if-is_none.ensures)))

pub returns-then-is_none-clause-replaced : goal.returns-then-is_none-clause-replaced
returns-then-is_none-clause-replaced c i =
    absurd (not_missed (view_of c.args.self.now) c.args.item.key i (c.requires.there i) (sym c.find.ensures ∙ none_of c.find.result (c.if-is_none.ensures)))

pub returns-clause-shape : goal.returns-clause-shape
returns-clause-shape c =
    replaced_shaped c.args.item (view_of c.args.self.now) (index_of c.replace.new.self) c.requires.shape
    (ap is_some (sym c.find.ensures) ∙ c.if-is_none.ensures) c.replace.ensures

pub returns-clause-replaced : goal.returns-clause-replaced
returns-clause-replaced c i = replaced_so c.args.item (view_of c.args.self.now) (index_of c.replace.new.self) i (c.requires.there i) c.replace.ensures
