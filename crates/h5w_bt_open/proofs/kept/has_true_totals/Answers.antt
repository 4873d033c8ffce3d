use Rattle.std.proofs.Common.{◌↔◌, sym, subst}
use Rattle.std.specs.Prelude.{IsTrue}
use Rattle.h5w_bt_index.specs.declared.root.Root.{Root}
use Rattle.h5w_bt_index.specs.Index.{IsShaped, index_of}
use Rattle.h5w_bt_index.specs.Sound.{IsSound}
use Rattle.h5w_model.specs.Trees.{capacity_of}
use Rattle.h5w_bt_open.proofs.kept.has_true_totals.Goals as goal

pub has_true_totals-requires-clause-shape : goal.has_true_totals-requires-clause-shape
has_true_totals-requires-clause-shape c = (subst (λ (r : Root). IsShaped (index_of r)) c.in-Zero.is c.requires).shape

pub returns-in-Zero : goal.returns-in-Zero
returns-in-Zero c = subst (λ (r : Root). IsTrue c.has_true_totals.result ↔ IsSound (index_of r).depth (capacity_of (index_of r).depth) (index_of r).root) (sym c.in-Zero.is) c.has_true_totals.ensures

pub has_true_totals-requires-in-One-clause-shape : goal.has_true_totals-requires-in-One-clause-shape
has_true_totals-requires-in-One-clause-shape c = (subst (λ (r : Root). IsShaped (index_of r)) c.in-One.is c.requires).shape

pub returns-in-One : goal.returns-in-One
returns-in-One c = subst (λ (r : Root). IsTrue c.has_true_totals-in-One.result ↔ IsSound (index_of r).depth (capacity_of (index_of r).depth) (index_of r).root) (sym c.in-One.is) c.has_true_totals-in-One.ensures

pub has_true_totals-requires-in-Two-clause-shape : goal.has_true_totals-requires-in-Two-clause-shape
has_true_totals-requires-in-Two-clause-shape c = (subst (λ (r : Root). IsShaped (index_of r)) c.in-Two.is c.requires).shape

pub returns-in-Two : goal.returns-in-Two
returns-in-Two c = subst (λ (r : Root). IsTrue c.has_true_totals-in-Two.result ↔ IsSound (index_of r).depth (capacity_of (index_of r).depth) (index_of r).root) (sym c.in-Two.is) c.has_true_totals-in-Two.ensures

pub has_true_totals-requires-in-Three-clause-shape : goal.has_true_totals-requires-in-Three-clause-shape
has_true_totals-requires-in-Three-clause-shape c = (subst (λ (r : Root). IsShaped (index_of r)) c.in-Three.is c.requires).shape

pub returns-in-Three : goal.returns-in-Three
returns-in-Three c = subst (λ (r : Root). IsTrue c.has_true_totals-in-Three.result ↔ IsSound (index_of r).depth (capacity_of (index_of r).depth) (index_of r).root) (sym c.in-Three.is) c.has_true_totals-in-Three.ensures
