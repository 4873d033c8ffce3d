use Rattle.std.proofs.Common.{◌≡◌, ◌≤◌, true, refl, sym, ap, ◌∙◌, subst}
use Rattle.h5w_bt_index.specs.declared.root.Root.{Root}
use Rattle.h5w_bt_index.specs.declared.root.Root.TheVariants.{Zero, One, Two, Three}
use Rattle.h5w_bt_index.specs.Index.{IsShaped, index_of, inserted}
use Rattle.h5w_bt_nodes.specs.Puts.{is_over, put}
use Rattle.h5w_bt_nodes.specs.Typed.{leaf_of, inner_of}
use Rattle.h5w_bt_index.proofs.Laws.{became_raised, became_same, raised-index, same-index, on_ok, three-not_over}
use Rattle.h5w_bt_index.proofs.root.Root.put.Goals as goal

pub put_at_root-requires-clause-shape : goal.put_at_root-requires-clause-shape
put_at_root-requires-clause-shape c = (subst (λ (r : Root). IsShaped (index_of r)) c.in-Zero.is c.requires.shape).shape

pub put_at_root-requires-in-One-clause-shape : goal.put_at_root-requires-in-One-clause-shape
put_at_root-requires-in-One-clause-shape c = (subst (λ (r : Root). IsShaped (index_of r)) c.in-One.is c.requires.shape).shape

pub put_at_root-requires-in-Two-clause-shape : goal.put_at_root-requires-in-Two-clause-shape
put_at_root-requires-in-Two-clause-shape c = (subst (λ (r : Root). IsShaped (index_of r)) c.in-Two.is c.requires.shape).shape

pub put-requires-clause-shape : goal.put-requires-clause-shape
put-requires-clause-shape c = (subst (λ (r : Root). IsShaped (index_of r)) c.in-Three.is c.requires.shape).shape

pub returns-in-Some-clause-ok : goal.returns-in-Some-clause-ok
returns-in-Some-clause-ok c =
    let a = c.in_ok-above-in-Zero in
    let p = became_raised 0 (leaf_of c.in-Zero.root) (inner_of 0 leaf_of) (leaf_of c.put_at_root.new.root) c.args.item a.field-0 c.in-Some.above c.in-Some.is a.ensures.ok in
    raised-index c.args.item (index_of (Zero c.in-Zero.root)) ((inner_of 0 leaf_of) c.in-Some.above) (p.0) (p.1) ∙ ap (λ (r : Root). inserted c.args.item (index_of r)) (sym c.in-Zero.is)

pub returns-in_default-clause-ok : goal.returns-in_default-clause-ok
returns-in_default-clause-ok c =
    let a = c.in_ok-above-in-Zero in
    let p = became_same 0 (leaf_of c.in-Zero.root) (inner_of 0 leaf_of) (leaf_of c.put_at_root.new.root) c.args.item a.field-0 c.in_default.is a.ensures.ok in
    same-index c.args.item (index_of (Zero c.in-Zero.root)) (leaf_of c.put_at_root.new.root) (p.0) (p.1) ∙ ap (λ (r : Root). inserted c.args.item (index_of r)) (sym c.in-Zero.is)

pub returns-in-Some-2-clause-ok : goal.returns-in-Some-2-clause-ok
returns-in-Some-2-clause-ok c =
    let a = c.in_ok-above-in-One in
    let p = became_raised 1 ((inner_of 0 leaf_of) c.in-One.root) (inner_of 1 (inner_of 0 leaf_of)) ((inner_of 0 leaf_of) c.put_at_root-in-One.new.root) c.args.item a.field-0 c.in-Some-2.above c.in-Some-2.is a.ensures.ok in
    raised-index c.args.item (index_of (One c.in-One.root)) ((inner_of 1 (inner_of 0 leaf_of)) c.in-Some-2.above) (p.0) (p.1) ∙ ap (λ (r : Root). inserted c.args.item (index_of r)) (sym c.in-One.is)

pub returns-in_default-2-clause-ok : goal.returns-in_default-2-clause-ok
returns-in_default-2-clause-ok c =
    let a = c.in_ok-above-in-One in
    let p = became_same 1 ((inner_of 0 leaf_of) c.in-One.root) (inner_of 1 (inner_of 0 leaf_of)) ((inner_of 0 leaf_of) c.put_at_root-in-One.new.root) c.args.item a.field-0 c.in_default-2.is a.ensures.ok in
    same-index c.args.item (index_of (One c.in-One.root)) ((inner_of 0 leaf_of) c.put_at_root-in-One.new.root) (p.0) (p.1) ∙ ap (λ (r : Root). inserted c.args.item (index_of r)) (sym c.in-One.is)

pub returns-in-Some-3-clause-ok : goal.returns-in-Some-3-clause-ok
returns-in-Some-3-clause-ok c =
    let a = c.in_ok-above-in-Two in
    let p = became_raised 2 ((inner_of 1 (inner_of 0 leaf_of)) c.in-Two.root) (inner_of 2 (inner_of 1 (inner_of 0 leaf_of))) ((inner_of 1 (inner_of 0 leaf_of)) c.put_at_root-in-Two.new.root) c.args.item a.field-0 c.in-Some-3.above c.in-Some-3.is a.ensures.ok in
    raised-index c.args.item (index_of (Two c.in-Two.root)) ((inner_of 2 (inner_of 1 (inner_of 0 leaf_of))) c.in-Some-3.above) (p.0) (p.1) ∙ ap (λ (r : Root). inserted c.args.item (index_of r)) (sym c.in-Two.is)

pub returns-in_default-3-clause-ok : goal.returns-in_default-3-clause-ok
returns-in_default-3-clause-ok c =
    let a = c.in_ok-above-in-Two in
    let p = became_same 2 ((inner_of 1 (inner_of 0 leaf_of)) c.in-Two.root) (inner_of 2 (inner_of 1 (inner_of 0 leaf_of))) ((inner_of 1 (inner_of 0 leaf_of)) c.put_at_root-in-Two.new.root) c.args.item a.field-0 c.in_default-3.is a.ensures.ok in
    same-index c.args.item (index_of (Two c.in-Two.root)) ((inner_of 1 (inner_of 0 leaf_of)) c.put_at_root-in-Two.new.root) (p.0) (p.1) ∙ ap (λ (r : Root). inserted c.args.item (index_of r)) (sym c.in-Two.is)

pub returns-in-Three-clause-ok : goal.returns-in-Three-clause-ok
returns-in-Three-clause-ok c =
    let t = inner_of 2 (inner_of 1 (inner_of 0 leaf_of)) in
    let x = c.args.item in
    let k = subst (λ (r : Root). is_over (index_of r).depth (put (index_of r).depth x (index_of r).root) ≡ true → (index_of r).depth ≤ 2) c.in-Three.is c.requires.shallow in
    let n = three-not_over x (index_of (Three c.in-Three.root)) k refl in
    on_ok c.put.result (t c.put.new.self ≡ put 3 x (t c.in-Three.root)) (index_of (Three c.put.new.self) ≡ inserted x (index_of c.args.self.now))
    (λ e. same-index x (index_of (Three c.in-Three.root)) (t c.put.new.self) n e ∙ ap (λ (r : Root). inserted x (index_of r)) (sym c.in-Three.is)) c.put.ensures.ok
