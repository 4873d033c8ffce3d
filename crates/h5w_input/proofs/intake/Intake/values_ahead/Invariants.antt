use Rattle.std.proofs.Common.{◌≡◌, ◌++◌, ◌-◌, List, ℤ}
use Rattle.std.specs.Vec.{vec_len, vec_capacity}
use Rattle.h5w_input.specs.LinesAhead.{StandNext}
use Rattle.h5w_input.proofs.intake.Intake.values_ahead.Given as goal

abbrev pub invariant-loop-held : goal.invariant-loop-held
invariant-loop-held l = (added : List ℤ) × (l.values.items ≡ l.initial.values.items ++ added) × StandNext added l.at l.held

abbrev pub decreases-loop-held : goal.decreases-loop-held
decreases-loop-held l = vec_capacity l.values - vec_len l.values
