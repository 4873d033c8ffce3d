use Rattle.std.proofs.Common.{sym, ap, ◌∙◌, subst}
use Rattle.h5w_bt_index.specs.declared.root.Root.{Root}
use Rattle.h5w_bt_index.specs.Index.{IsShaped, index_of}
use Rattle.h5w_bt_nodes.specs.Puts.{is_full_path}
use Rattle.h5w_bt_index.proofs.root.Root.is_deepest.Goals as goal

pub is_full_path-requires-clause-shape : goal.is_full_path-requires-clause-shape
is_full_path-requires-clause-shape c = (subst (λ (r : Root). IsShaped (index_of r)) c.in-Three.is c.requires).shape

pub returns-in-Three : goal.returns-in-Three
returns-in-Three c =
    let e = ap (λ (r : Root). is_full_path (index_of r).depth c.args.key (index_of r).root) c.in-Three.is in
    (λ h. (ap (λ (r : Root). (index_of r).depth) c.in-Three.is, e ∙ sym c.is_full_path.ensures ∙ h), λ p. c.is_full_path.ensures ∙ sym e ∙ p.1)
