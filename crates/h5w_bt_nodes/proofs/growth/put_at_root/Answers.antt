use Rattle.std.proofs.Common.{arith, ◌≡◌, true, suc, sym, ◌∙◌, ap, subst, Option}
use Rattle.std.specs.Prelude.{IfSome}
use Rattle.h5w_model.specs.Trees.{capacity_of}
use Rattle.h5w_bt_nodes.specs.Puts.{is_over, put, raised}
use Rattle.h5w_bt_nodes.specs.Shapes.{IsShape}
use Rattle.h5w_bt_nodes.specs.Typed.{IsRoomyInner}
use Rattle.h5w_bt_nodes.specs.declared.growth.Spare.{Spare}
use Rattle.h5w_bt_nodes.proofs.Shapes.{put_shape}
use Rattle.h5w_bt_nodes.proofs.Down.{was-full, no_spare}
use Rattle.h5w_bt_nodes.proofs.growth.put_at_root.Goals as goal

pub raise-requires-clause-shape : goal.raise-requires-clause-shape
raise-requires-clause-shape g c =
    subst (IsShape g.C.Subtree.depth (suc (capacity_of g.C.Subtree.depth))) (sym c.in_ok-put.ensures.ok) (put_shape g.C.Subtree.depth c.args.item (g.C.Subtree.tree c.args.root.now) (omega (arith, c.requires.shallow)) c.requires.shape)

pub returns-in-None-clause-ok : goal.returns-in-None-clause-ok
returns-in-None-clause-ok g c =
    let d = g.C.Subtree.depth in
    let o : is_over d (put d c.args.item (g.C.Subtree.tree c.args.root.now)) ≡ true = ap (is_over d) (sym c.in_ok-put.ensures.ok) ∙ sym c.if-not-is_over.ensures in
    absurd (no_spare c.in_ok-spare.spare c.in-None.is (c.in_ok-spare.ensures.full (was-full d c.args.item (g.C.Subtree.tree c.args.root.now) c.requires.shape o)))

pub raise-requires-clause-over : goal.raise-requires-clause-over
raise-requires-clause-over g c = sym c.if-not-is_over.ensures

pub raise-requires-clause-right : goal.raise-requires-clause-right
raise-requires-clause-right g c = subst (λ (o : Option (Spare _)). IfSome o (λ s. g.C.Subtree.roomy s.right)) c.in-Some.is c.in_ok-spare.ensures.right

pub raise-requires-clause-above : goal.raise-requires-clause-above
raise-requires-clause-above g c = subst (λ (o : Option (Spare _)). IfSome o (λ s. IsRoomyInner s.above)) c.in-Some.is c.in_ok-spare.ensures.above

pub returns-in-Some-clause-ok : goal.returns-in-Some-clause-ok
returns-in-Some-clause-ok g c = (
  ap (is_over g.C.Subtree.depth) (sym c.in_ok-put.ensures.ok) ∙ sym c.if-not-is_over.ensures,
  c.raise.ensures ∙ ap (raised g.C.Subtree.depth) c.in_ok-put.ensures.ok,
)

pub returns-then-not-is_over-clause-ok : goal.returns-then-not-is_over-clause-ok
returns-then-not-is_over-clause-ok g c = (ap (is_over g.C.Subtree.depth) (sym c.in_ok-put.ensures.ok) ∙ sym c.if-not-is_over.ensures, c.in_ok-put.ensures.ok)
