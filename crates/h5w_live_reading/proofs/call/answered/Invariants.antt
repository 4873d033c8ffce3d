use Rattle.std.proofs.Common.{◌≡◌}
use Rattle.h5w_reader.specs.Cores.{reader}
use Rattle.h5w_live_reading.proofs.CallLemmas.{Asking}
use Rattle.h5w_live_reading.proofs.call.answered.Given as goal

abbrev pub invariant-loop : goal.invariant-loop
invariant-loop g l = (l.seat.image ≡ l.image) × Asking l.image.start l.initial.seat.seen l.seat.seen (reader l.initial.core) (reader l.core)
