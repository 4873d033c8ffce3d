use Rattle.std.proofs.Common.{◌≡◌, ◌++◌, flat_map, map, take}
use Rattle.h5w_bt_nodes.specs.Blocks.{stood}
use Rattle.h5w_bt_nodes.proofs.inner.stood_below.Given as goal

abbrev pub invariant-loop-child : goal.invariant-loop-child
invariant-loop-child g l = l.out.items ≡ l.initial.out.items ++ flat_map (stood g.C.Subtree.depth) (map g.C.Subtree.tree (take l.child-index l.children.items))
