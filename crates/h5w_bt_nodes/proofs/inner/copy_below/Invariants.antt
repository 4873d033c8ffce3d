use Rattle.std.proofs.Common.{◌≡◌, map, take}
use Rattle.h5w_bt_nodes.proofs.inner.copy_below.Given as goal

abbrev pub invariant-loop-child : goal.invariant-loop-child
invariant-loop-child g l = map g.C.Subtree.tree l.copy.items ≡ map g.C.Subtree.tree (take l.child-index l.children.items)
