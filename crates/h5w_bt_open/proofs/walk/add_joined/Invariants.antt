use Rattle.std.proofs.Common.{◌≡◌, ◌++◌, drop, map}
use Rattle.h5w_bt_nodes.specs.Nodes.{all_records, joined}
use Rattle.h5w_bt_open.proofs.walk.add_joined.Given as goal

abbrev pub invariant-loop-at : goal.invariant-loop-at
invariant-loop-at g l = l.out.items ++ joined (drop l.at l.records) (map (all_records g.C.Subtree.depth) (map g.C.Subtree.tree (drop l.at l.children)))
    ≡ l.initial.out.items ++ joined l.records (map (all_records g.C.Subtree.depth) (map g.C.Subtree.tree l.children))
