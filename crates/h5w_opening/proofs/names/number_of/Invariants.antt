use Rattle.std.proofs.Common.{◌≡◌, ◌+◌, drop}
use Rattle.h5w_model.specs.Datasets.{number_of}
use Rattle.h5w_opening.proofs.names.number_of.Given as goal

abbrev pub invariant-loop-i : goal.invariant-loop-i
invariant-loop-i l = number_of l.place 1 l.places ≡ number_of l.place (l.i + 1) (drop l.i l.places)
