use Rattle.std.proofs.Common.{◌≡◌, ◌<◌, false, length, map, arith}
use Rattle.std.specs.List.{All}
use Rattle.h5w_model.specs.Trees.{capacity_of}
use Rattle.h5w_bt_nodes.specs.Shapes.{IsShapedChild}
use Rattle.h5w_bt_index.specs.Sound.{IsSound}
use Rattle.h5w_bt_open.proofs.WalkLemmas.{each_here, holds_step}
use Rattle.h5w_bt_open.proofs.walk.have_true_totals.Goals as goal

pub has_true_totals-requires-clause-shape : goal.has_true_totals-requires-clause-shape
has_true_totals-requires-clause-shape g c =
    let inside : c.loop-child.child-index < length c.args.children.now = omega (arith, c.loop-child-test.true) in
    (each_here (IsShapedChild g.C.Subtree.depth) g.C.Subtree.tree c.args.children.now c.loop-child.child-index c.child-item.result inside c.child-item.is c.requires.shapes).0

pub returns-then-not-has_true_totals : goal.returns-then-not-has_true_totals
returns-then-not-has_true_totals g c =
    let d = g.C.Subtree.depth in
    let inside : c.loop-child.child-index < length c.args.children.now = omega (arith, c.loop-child-test.true) in
    let not_so : c.has_true_totals.result ≡ false = c.if-not-has_true_totals.true in
    (λ yes. absurd (cc), λ all. let so = c.has_true_totals.ensures.1 (each_here (IsSound d (capacity_of d)) g.C.Subtree.tree c.args.children.now c.loop-child.child-index c.child-item.result inside c.child-item.is all) in cc)

pub loop-child-preserved : goal.loop-child-preserved
loop-child-preserved g c =
    let d = g.C.Subtree.depth in
    let inside : c.loop-child.child-index < length c.args.children.now = omega (arith, c.loop-child-test.true) in
    holds_step (IsSound d (capacity_of d)) g.C.Subtree.tree c.args.children.now c.loop-child.child-index c.child-item.result (All (IsSound d (capacity_of d)) (map g.C.Subtree.tree c.args.children.now)) inside c.child-item.is
    (c.has_true_totals.ensures.0 c.if-not-has_true_totals.false) c.loop-child.invariant
