use Rattle.std.proofs.Common.{◌≡◌, true, is_some, sym, ap, ◌∙◌, subst}
use Rattle.h5w_bt_index.specs.declared.root.Root.{Root}
use Rattle.h5w_bt_index.specs.declared.root.Root.TheVariants.{Zero, One, Two, Three}
use Rattle.h5w_bt_index.specs.Index.{IsShaped, index_of, inserted}
use Rattle.h5w_bt_nodes.specs.Nodes.{found}
use Rattle.h5w_bt_nodes.specs.Typed.{leaf_of, inner_of}
use Rattle.h5w_bt_index.proofs.Replaced.{replaced_index}
use Rattle.h5w_bt_index.proofs.root.Root.replace.Goals as goal

pub replace-requires-clause-shape : goal.replace-requires-clause-shape
replace-requires-clause-shape c = (subst (λ (r : Root). IsShaped (index_of r)) c.in-Zero.is c.requires.shape).shape

pub replace-requires-clause-there : goal.replace-requires-clause-there
replace-requires-clause-there c = subst (λ (r : Root). is_some (found (index_of r).depth c.args.item.key (index_of r).root) ≡ true) c.in-Zero.is c.requires.there

pub returns-in-Zero : goal.returns-in-Zero
returns-in-Zero c =
    replaced_index c.args.item (index_of (Zero c.in-Zero.root)) ((leaf_of) c.replace.new.self) (subst (λ (r : Root). IsShaped (index_of r)) c.in-Zero.is c.requires.shape)
    (subst (λ (r : Root). is_some (found (index_of r).depth c.args.item.key (index_of r).root) ≡ true) c.in-Zero.is c.requires.there) c.replace.ensures
    ∙ ap (λ (r : Root). inserted c.args.item (index_of r)) (sym c.in-Zero.is)

pub replace-requires-in-One-clause-shape : goal.replace-requires-in-One-clause-shape
replace-requires-in-One-clause-shape c = (subst (λ (r : Root). IsShaped (index_of r)) c.in-One.is c.requires.shape).shape

pub replace-requires-in-One-clause-there : goal.replace-requires-in-One-clause-there
replace-requires-in-One-clause-there c = subst (λ (r : Root). is_some (found (index_of r).depth c.args.item.key (index_of r).root) ≡ true) c.in-One.is c.requires.there

pub returns-in-One : goal.returns-in-One
returns-in-One c =
    replaced_index c.args.item (index_of (One c.in-One.root)) ((inner_of 0 leaf_of) c.replace-in-One.new.self) (subst (λ (r : Root). IsShaped (index_of r)) c.in-One.is c.requires.shape)
    (subst (λ (r : Root). is_some (found (index_of r).depth c.args.item.key (index_of r).root) ≡ true) c.in-One.is c.requires.there) c.replace-in-One.ensures
    ∙ ap (λ (r : Root). inserted c.args.item (index_of r)) (sym c.in-One.is)

pub replace-requires-in-Two-clause-shape : goal.replace-requires-in-Two-clause-shape
replace-requires-in-Two-clause-shape c = (subst (λ (r : Root). IsShaped (index_of r)) c.in-Two.is c.requires.shape).shape

pub replace-requires-in-Two-clause-there : goal.replace-requires-in-Two-clause-there
replace-requires-in-Two-clause-there c = subst (λ (r : Root). is_some (found (index_of r).depth c.args.item.key (index_of r).root) ≡ true) c.in-Two.is c.requires.there

pub returns-in-Two : goal.returns-in-Two
returns-in-Two c =
    replaced_index c.args.item (index_of (Two c.in-Two.root)) ((inner_of 1 (inner_of 0 leaf_of)) c.replace-in-Two.new.self) (subst (λ (r : Root). IsShaped (index_of r)) c.in-Two.is c.requires.shape)
    (subst (λ (r : Root). is_some (found (index_of r).depth c.args.item.key (index_of r).root) ≡ true) c.in-Two.is c.requires.there) c.replace-in-Two.ensures
    ∙ ap (λ (r : Root). inserted c.args.item (index_of r)) (sym c.in-Two.is)

pub replace-requires-in-Three-clause-shape : goal.replace-requires-in-Three-clause-shape
replace-requires-in-Three-clause-shape c = (subst (λ (r : Root). IsShaped (index_of r)) c.in-Three.is c.requires.shape).shape

pub replace-requires-in-Three-clause-there : goal.replace-requires-in-Three-clause-there
replace-requires-in-Three-clause-there c = subst (λ (r : Root). is_some (found (index_of r).depth c.args.item.key (index_of r).root) ≡ true) c.in-Three.is c.requires.there

pub returns-in-Three : goal.returns-in-Three
returns-in-Three c =
    replaced_index c.args.item (index_of (Three c.in-Three.root)) ((inner_of 2 (inner_of 1 (inner_of 0 leaf_of))) c.replace-in-Three.new.self) (subst (λ (r : Root). IsShaped (index_of r)) c.in-Three.is c.requires.shape)
    (subst (λ (r : Root). is_some (found (index_of r).depth c.args.item.key (index_of r).root) ≡ true) c.in-Three.is c.requires.there) c.replace-in-Three.ensures
    ∙ ap (λ (r : Root). inserted c.args.item (index_of r)) (sym c.in-Three.is)
