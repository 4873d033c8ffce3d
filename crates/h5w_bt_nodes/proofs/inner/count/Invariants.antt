use Rattle.std.proofs.Common.{◌≡◌, ◌+◌, map, take}
use Rattle.std.specs.List.{sum_by}
use Rattle.h5w_bt_nodes.specs.Nodes.{total_of}
use Rattle.h5w_bt_nodes.proofs.inner.count.Given as goal

abbrev pub invariant-loop-child : goal.invariant-loop-child
invariant-loop-child g l = l.total ≡ l.records + sum_by (total_of g.C.Subtree.depth) (map g.C.Subtree.tree (take l.child-index l.children))
