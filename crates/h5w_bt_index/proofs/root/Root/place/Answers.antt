use Rattle.std.proofs.Common.{sym, ap}
use Rattle.h5w_bt_index.specs.declared.root.Root.{Root}
use Rattle.h5w_bt_index.specs.Index.{index_of}
use Rattle.h5w_bt_nodes.specs.Blocks.{place_of}
use Rattle.h5w_bt_index.proofs.root.Root.place.Goals as goal

pub returns-in-Zero : goal.returns-in-Zero
returns-in-Zero c = ap (λ (r : Root). place_of (index_of r).depth (index_of r).root) (sym c.in-Zero.is)

pub returns-in-One : goal.returns-in-One
returns-in-One c = ap (λ (r : Root). place_of (index_of r).depth (index_of r).root) (sym c.in-One.is)

pub returns-in-Two : goal.returns-in-Two
returns-in-Two c = ap (λ (r : Root). place_of (index_of r).depth (index_of r).root) (sym c.in-Two.is)

pub returns-in-Three : goal.returns-in-Three
returns-in-Three c = ap (λ (r : Root). place_of (index_of r).depth (index_of r).root) (sym c.in-Three.is)
