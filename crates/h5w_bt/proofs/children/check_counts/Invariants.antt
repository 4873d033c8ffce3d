use Rattle.std.proofs.Common.{◌≡◌}
use Rattle.h5w_model.specs.Checked.{checked}
use Rattle.h5w_model.specs.Trees.{child_tests}
use Rattle.h5w_bt.proofs.Reading.{counts_left}
use Rattle.h5w_bt.proofs.children.check_counts.Given as goal

abbrev pub invariant-loop-i : goal.invariant-loop-i
invariant-loop-i l = checked (child_tests l.b l.at l.depth l.n l.from) (tt {0}) ≡ counts_left l.b l.at l.depth l.n l.from l.i
