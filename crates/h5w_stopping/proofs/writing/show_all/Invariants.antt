use Rattle.h5w_stopping.proofs.ShowingLemmas.{ShowsFirst}
use Rattle.h5w_stopping.proofs.writing.show_all.Given as goal

abbrev pub invariant-loop : goal.invariant-loop
invariant-loop l = ShowsFirst l.fn.world l.world l.counter
