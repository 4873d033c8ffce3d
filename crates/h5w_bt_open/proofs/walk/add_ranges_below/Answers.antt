use Rattle.std.proofs.Common.{◌≡◌, ◌<◌, ◌≤◌, ◌++◌, ◌∙◌, List, Option, ap, ap₂, arith, length, map}
use Rattle.h5w_model.specs.declared.cell.Key.{Key}
use Rattle.h5w_bt_nodes.specs.Shapes.{IsShapedChild}
use Rattle.h5w_bt_open.specs.Spans.{high_of, low_of}
use Rattle.h5w_bt_open.specs.Needed.{needed_ranges, of_each}
use Rattle.h5w_bt_open.proofs.WalkLemmas.{each_here}
use Rattle.h5w_bt_open.proofs.NeededLemmas.{needed_end, needed_step}
use Rattle.h5w_bt_open.proofs.walk.add_ranges_below.Goals as goal

pub loop-at-init : goal.loop-at-init
loop-at-init g c =
    let d = g.C.Subtree.depth in
    let before = c.args.out.now.items in
    ap₂ (λ (low high : Option Key). before ++ of_each (needed_ranges d) low high c.args.records.now (map g.C.Subtree.tree c.args.children.now)) c.low_of-low.ensures c.high_of-high.ensures

pub add_ranges-requires-clause-shape : goal.add_ranges-requires-clause-shape
add_ranges-requires-clause-shape g c =
    let inside : c.loop-at.at < length c.args.children.now = omega (arith, c.loop-at-test.true) in
    (each_here (IsShapedChild g.C.Subtree.depth) g.C.Subtree.tree c.args.children.now c.loop-at.at c.index-children-at.result inside c.index-children-at.is c.requires.shapes).0

pub loop-at-preserved : goal.loop-at-preserved
loop-at-preserved g c =
    let inside : c.loop-at.at < length c.args.children.now = omega (arith, c.loop-at-test.true) in
    needed_step (needed_ranges g.C.Subtree.depth) g.C.Subtree.tree c.loop-at.low c.high_of-high.result c.args.records.now c.args.children.now c.loop-at.at c.index-children-at.result c.span_at-here.result c.low_behind-low.result c.loop-at.out.items c.add_ranges.new.out.items
    (c.args.out.now.items ++ of_each (needed_ranges g.C.Subtree.depth) (low_of c.args.span) (high_of c.args.span) c.args.records.now (map g.C.Subtree.tree c.args.children.now)) inside c.index-children-at.is c.span_at-here.ensures c.low_behind-low.ensures.exact
    c.in_ok-add_ranges.ensures c.loop-at.invariant

pub returns : goal.returns
returns g c =
    let past : length c.args.children.now ≤ c.loop-at.at = omega (arith, c.loop-at-test.false) in
    needed_end (needed_ranges g.C.Subtree.depth) g.C.Subtree.tree c.loop-at.low c.high_of-high.result c.args.records.now c.args.children.now c.loop-at.at c.loop-at.out.items
    (c.args.out.now.items ++ of_each (needed_ranges g.C.Subtree.depth) (low_of c.args.span) (high_of c.args.span) c.args.records.now (map g.C.Subtree.tree c.args.children.now)) past c.loop-at.invariant
