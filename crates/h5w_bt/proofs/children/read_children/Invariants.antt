use Rattle.std.proofs.Common.{◌≡◌, map}
use Rattle.h5w_model.specs.Trees.{children_in}
use Rattle.h5w_bt.specs.Parts.{child_of}
use Rattle.h5w_bt.proofs.children.read_children.Given as goal

abbrev pub invariant-loop-i : goal.invariant-loop-i
invariant-loop-i l = map child_of l.children.items ≡ children_in l.b l.depth l.i l.from
