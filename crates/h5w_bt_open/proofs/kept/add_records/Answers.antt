use Rattle.std.proofs.Common.{◌≡◌, ◌++◌, sym, subst, OnOk}
use Rattle.h5w_bt_index.specs.declared.root.Root.{Root}
use Rattle.h5w_bt_index.specs.Index.{index_of, records}
use Rattle.h5w_bt_open.proofs.kept.add_records.Goals as goal

pub returns-in-Zero : goal.returns-in-Zero
returns-in-Zero c = subst (λ (r : Root). OnOk c.add_records.result (c.add_records.new.out.items ≡ c.args.out.now.items ++ records (index_of r))) (sym c.in-Zero.is) c.add_records.ensures

pub returns-in-One : goal.returns-in-One
returns-in-One c = subst (λ (r : Root). OnOk c.add_records-in-One.result (c.add_records-in-One.new.out.items ≡ c.args.out.now.items ++ records (index_of r))) (sym c.in-One.is) c.add_records-in-One.ensures

pub returns-in-Two : goal.returns-in-Two
returns-in-Two c = subst (λ (r : Root). OnOk c.add_records-in-Two.result (c.add_records-in-Two.new.out.items ≡ c.args.out.now.items ++ records (index_of r))) (sym c.in-Two.is) c.add_records-in-Two.ensures

pub returns-in-Three : goal.returns-in-Three
returns-in-Three c = subst (λ (r : Root). OnOk c.add_records-in-Three.result (c.add_records-in-Three.new.out.items ≡ c.args.out.now.items ++ records (index_of r))) (sym c.in-Three.is) c.add_records-in-Three.ensures
