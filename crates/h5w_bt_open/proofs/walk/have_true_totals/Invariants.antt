use Rattle.std.proofs.Common.{◌↔◌, drop, map}
use Rattle.std.specs.List.{All}
use Rattle.h5w_model.specs.Trees.{capacity_of}
use Rattle.h5w_bt_index.specs.Sound.{IsSound}
use Rattle.h5w_bt_open.proofs.walk.have_true_totals.Given as goal

abbrev pub invariant-loop-child : goal.invariant-loop-child
invariant-loop-child g l = All (IsSound g.C.Subtree.depth (capacity_of g.C.Subtree.depth)) (map g.C.Subtree.tree (drop l.child-index l.children))
    ↔ All (IsSound g.C.Subtree.depth (capacity_of g.C.Subtree.depth)) (map g.C.Subtree.tree l.children)
