use Rattle.std.proofs.Common.{◌≡◌, length}
use Rattle.h5w_live.proofs.WritingLemmas.{Showing}
use Rattle.h5w_live.proofs.writing.show.Given as goal

abbrev pub invariant-loop-w : goal.invariant-loop-w
invariant-loop-w g l = (l.seat.image ≡ l.image) × Showing l.initial.session l.session l.initial.seat l.seat

abbrev pub decreases-loop-w : goal.decreases-loop-w
decreases-loop-w g l = length l.session.pending
