use Rattle.std.proofs.Common.{sym, ap, ◌∙◌, subst}
use Rattle.h5w_bt_index.specs.declared.root.Root.{Root}
use Rattle.h5w_bt_index.specs.Index.{IsShaped, index_of}
use Rattle.h5w_bt_nodes.specs.Nodes.{found}
use Rattle.h5w_bt_index.proofs.root.Root.find.Goals as goal

pub find-requires : goal.find-requires
find-requires c = (subst (λ (r : Root). IsShaped (index_of r)) c.in-Zero.is c.requires).shape

pub find-requires-in-One : goal.find-requires-in-One
find-requires-in-One c = (subst (λ (r : Root). IsShaped (index_of r)) c.in-One.is c.requires).shape

pub find-requires-in-Two : goal.find-requires-in-Two
find-requires-in-Two c = (subst (λ (r : Root). IsShaped (index_of r)) c.in-Two.is c.requires).shape

pub find-requires-in-Three : goal.find-requires-in-Three
find-requires-in-Three c = (subst (λ (r : Root). IsShaped (index_of r)) c.in-Three.is c.requires).shape

pub returns-in-Zero : goal.returns-in-Zero
returns-in-Zero c = c.find.ensures ∙ ap (λ (r : Root). found (index_of r).depth c.args.key (index_of r).root) (sym c.in-Zero.is)

pub returns-in-One : goal.returns-in-One
returns-in-One c = c.find-in-One.ensures ∙ ap (λ (r : Root). found (index_of r).depth c.args.key (index_of r).root) (sym c.in-One.is)

pub returns-in-Two : goal.returns-in-Two
returns-in-Two c = c.find-in-Two.ensures ∙ ap (λ (r : Root). found (index_of r).depth c.args.key (index_of r).root) (sym c.in-Two.is)

pub returns-in-Three : goal.returns-in-Three
returns-in-Three c = c.find-in-Three.ensures ∙ ap (λ (r : Root). found (index_of r).depth c.args.key (index_of r).root) (sym c.in-Three.is)
