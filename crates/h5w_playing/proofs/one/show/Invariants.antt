use Rattle.h5w_playing.proofs.ShowLemmas.{Shown}
use Rattle.h5w_playing.proofs.one.show.Given as goal

abbrev pub invariant-loop : goal.invariant-loop
invariant-loop l = Shown l.fn.world l.world l.counter
