use Rattle.std.proofs.Common.{◌≡◌, ◌++◌, drop, map}
use Rattle.h5w_bt_open.specs.Spans.{high_of, low_of}
use Rattle.h5w_bt_open.specs.Needed.{needed_ranges, of_each}
use Rattle.h5w_bt_open.proofs.walk.add_ranges_below.Given as goal

abbrev pub invariant-loop-at : goal.invariant-loop-at
invariant-loop-at g l = l.out.items ++ of_each (needed_ranges g.C.Subtree.depth) l.low l.high (drop l.at l.records) (map g.C.Subtree.tree (drop l.at l.children))
    ≡ l.initial.out.items ++ of_each (needed_ranges g.C.Subtree.depth) (low_of l.fn.span) (high_of l.fn.span) l.records (map g.C.Subtree.tree l.children)
