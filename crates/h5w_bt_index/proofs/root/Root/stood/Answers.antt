use Rattle.std.proofs.Common.{◌≡◌, ◌++◌, sym, subst, OnOk}
use Rattle.h5w_bt_index.specs.declared.root.Root.{Root}
use Rattle.h5w_bt_index.specs.Index.{index_of}
use Rattle.h5w_bt_nodes.specs.Blocks.{stood}
use Rattle.h5w_bt_index.proofs.root.Root.stood.Goals as goal

pub returns-in-Zero : goal.returns-in-Zero
returns-in-Zero c = subst (λ (r : Root). OnOk c.stood.result (c.stood.new.out.items ≡ c.args.out.now.items ++ stood (index_of r).depth (index_of r).root)) (sym c.in-Zero.is) c.stood.ensures

pub returns-in-One : goal.returns-in-One
returns-in-One c = subst (λ (r : Root). OnOk c.stood-in-One.result (c.stood-in-One.new.out.items ≡ c.args.out.now.items ++ stood (index_of r).depth (index_of r).root)) (sym c.in-One.is) c.stood-in-One.ensures

pub returns-in-Two : goal.returns-in-Two
returns-in-Two c = subst (λ (r : Root). OnOk c.stood-in-Two.result (c.stood-in-Two.new.out.items ≡ c.args.out.now.items ++ stood (index_of r).depth (index_of r).root)) (sym c.in-Two.is) c.stood-in-Two.ensures

pub returns-in-Three : goal.returns-in-Three
returns-in-Three c = subst (λ (r : Root). OnOk c.stood-in-Three.result (c.stood-in-Three.new.out.items ≡ c.args.out.now.items ++ stood (index_of r).depth (index_of r).root)) (sym c.in-Three.is) c.stood-in-Three.ensures
