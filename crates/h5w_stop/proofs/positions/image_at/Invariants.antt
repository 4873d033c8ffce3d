use Rattle.std.proofs.Common.{◌≡◌, [], take}
use Rattle.h5w_model.specs.Images.{image}
use Rattle.h5w_stop.proofs.positions.image_at.Given as goal

abbrev pub invariant-loop-k : goal.invariant-loop-k
invariant-loop-k l = l.image ≡ image [] (take l.k l.journal.writes)
