use Rattle.std.proofs.Common.{length}
use Rattle.h5w_make.proofs.BatchLemmas.{Showing}
use Rattle.h5w_make.proofs.batch.show_all.Given as goal

abbrev pub invariant-loop-w : goal.invariant-loop-w
invariant-loop-w l = Showing l.initial.session l.session l.initial.image l.image

abbrev pub decreases-loop-w : goal.decreases-loop-w
decreases-loop-w l = length l.session.pending
