use Rattle.std.proofs.Common.{take}
use Rattle.h5w_check.specs.Verdicts.{AreRuns}
use Rattle.h5w_check.proofs.overlap.in_runs.Given as goal

abbrev pub invariant-loop-r : goal.invariant-loop-r
invariant-loop-r l = AreRuns l.bound (take l.r-index l.ranges) l.runs.items l.others.items
