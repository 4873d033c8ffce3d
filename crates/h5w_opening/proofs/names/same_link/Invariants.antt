use Rattle.std.proofs.Common.{◌≡◌, take, drop}
use Rattle.h5w_model.specs.Datasets.{same_behind, same_link}
use Rattle.h5w_opening.proofs.names.same_link.Given as goal

abbrev pub invariant-loop-i : goal.invariant-loop-i
invariant-loop-i l = same_link l.places ≡ same_behind (take l.i l.places) (drop l.i l.places)
