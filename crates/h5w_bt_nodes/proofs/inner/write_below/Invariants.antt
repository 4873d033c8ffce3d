use Rattle.std.proofs.Common.{◌≡◌, ◌+◌, ◌++◌, flat_map, length, map, drop}
use Rattle.h5w_bt.specs.Parts.{child_of}
use Rattle.h5w_bt_nodes.specs.Blocks.{AllRead, EachBy, changes, each_by, joined_blocks, news, placed, pointer_of, stood, writes_of, written}
use Rattle.h5w_bt_nodes.proofs.inner.write_below.Given as goal

abbrev pub invariant-loop-child : goal.invariant-loop-child
invariant-loop-child g l = record {
  count : l.below + length (flat_map (stood g.C.Subtree.depth) (drop l.child-index (map g.C.Subtree.tree l.children.items)))
      ≡ length (flat_map (stood g.C.Subtree.depth) (map g.C.Subtree.tree l.children.items));
  pointers : map child_of l.pointers.items ++ map (pointer_of g.C.Subtree.depth) (each_by (placed g.C.Subtree.depth) (changes g.C.Subtree.depth) (drop l.below (news l.moves)) (drop l.child-index (map g.C.Subtree.tree l.children.items)))
      ≡ map (pointer_of g.C.Subtree.depth) (each_by (placed g.C.Subtree.depth) (changes g.C.Subtree.depth) (news l.moves) (map g.C.Subtree.tree l.children.items));
  reads : EachBy (AllRead g.C.Subtree.depth) (changes g.C.Subtree.depth) (drop l.below (news l.moves)) (drop l.child-index (map g.C.Subtree.tree l.children.items))
      → EachBy (AllRead g.C.Subtree.depth) (changes g.C.Subtree.depth) (news l.moves) (map g.C.Subtree.tree l.children.items);
  written : l.out.items ++ writes_of (joined_blocks (each_by (written g.C.Subtree.depth) (changes g.C.Subtree.depth) (drop l.below (news l.moves)) (drop l.child-index (map g.C.Subtree.tree l.children.items))))
      ≡ l.initial.out.items ++ writes_of (joined_blocks (each_by (written g.C.Subtree.depth) (changes g.C.Subtree.depth) (news l.moves) (map g.C.Subtree.tree l.children.items)));
}
