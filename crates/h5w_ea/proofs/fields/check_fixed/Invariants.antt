use Rattle.std.proofs.Common.{◌≡◌, ◌+◌, drop}
use Rattle.h5w_model.specs.Checked.{checked}
use Rattle.h5w_ea.specs.Fields.{byte_tests}
use Rattle.h5w_ea.proofs.fields.check_fixed.Given as goal

abbrev pub invariant-loop-i : goal.invariant-loop-i
invariant-loop-i l = checked (byte_tests l.b l.at 4 l.wanted) (tt {0}) ≡ checked (byte_tests l.b l.at (4 + l.i) (drop l.i l.wanted)) (tt {0})
