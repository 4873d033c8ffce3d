use Rattle.std.proofs.Common.{◌+◌, ap, arith}
use Rattle.h5w_bt_nodes.specs.Nodes.{total_of}
use Rattle.h5w_bt_nodes.proofs.Bounds.{sum_more, sum_part}
use Rattle.h5w_bt_nodes.proofs.inner.count.Goals as goal

pub overflow_add-total : goal.overflow_add-total
overflow_add-total g c =
    let d = g.C.Subtree.depth in
    let t = g.C.Subtree.tree in
    let xs = c.args.children.now in
    let e = sum_more (total_of d) t xs c.loop-child.child-index c.child-item.result c.loop-child-test.true in
    let p = sum_part (total_of d) t xs (c.loop-child.child-index + 1) in
    let f = ap (λ (x : _). total_of d (t x)) c.child-item.is in
    omega (arith, e, p, f, c.total-total.ensures, c.loop-child.invariant, c.requires)
