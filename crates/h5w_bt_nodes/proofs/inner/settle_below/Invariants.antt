use Rattle.std.proofs.Common.{◌≡◌, ◌+◌, ◌++◌, flat_map, length, map, drop, take}
use Rattle.h5w_bt_nodes.specs.Blocks.{changes, each_by, news, placed, stood}
use Rattle.h5w_bt_nodes.proofs.inner.settle_below.Given as goal

abbrev pub invariant-loop-at : goal.invariant-loop-at
invariant-loop-at g l = record {
  long : length l.children.items ≡ length l.initial.children.items;
  count : l.below + length (flat_map (stood g.C.Subtree.depth) (drop l.at (map g.C.Subtree.tree l.children.items)))
      ≡ length (flat_map (stood g.C.Subtree.depth) (map g.C.Subtree.tree l.initial.children.items));
  placed : take l.at (map g.C.Subtree.tree l.children.items) ++ each_by (placed g.C.Subtree.depth) (changes g.C.Subtree.depth) (drop l.below (news l.moves)) (drop l.at (map g.C.Subtree.tree l.children.items))
      ≡ each_by (placed g.C.Subtree.depth) (changes g.C.Subtree.depth) (news l.moves) (map g.C.Subtree.tree l.initial.children.items);
}
