use Rattle.std.proofs.Common.{◌≡◌, ◌+◌, [], take}
use Rattle.h5w_model.specs.Images.{image}
use Rattle.h5w_stop.specs.Outcomes.{AreRuns, outcome_at}
use Rattle.h5w_stop.proofs.positions.sweep.Given as goal

abbrev pub invariant-loop-position : goal.invariant-loop-position
invariant-loop-position l = record {
  image : l.image ≡ image [] (take l.position l.journal.writes);
  runs : AreRuns (outcome_at l.journal.writes l.name) 0 (l.position + 1) l.runs;
}
