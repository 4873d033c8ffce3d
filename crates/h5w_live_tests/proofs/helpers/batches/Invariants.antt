use Rattle.h5w_live.specs.Writing.{AreBatches}
use Rattle.h5w_live_tests.proofs.helpers.batches.Given as goal

abbrev pub invariant-loop-values : goal.invariant-loop-values
invariant-loop-values l = AreBatches 1 l.batches.items
