use Rattle.std.proofs.Common.{◌≡◌, [], take, drop}
use Rattle.h5w_check.specs.Roots.{met_again}
use Rattle.h5w_check.proofs.root.met_again.Given as goal

abbrev pub invariant-loop-i : goal.invariant-loop-i
invariant-loop-i l = met_again [] l.places ≡ met_again (take l.i l.places) (drop l.i l.places)
