use Rattle.h5w_several_playing.proofs.ScriptLemmas.{Shown}
use Rattle.h5w_several_playing.proofs.script.show.Given as goal

abbrev pub invariant-loop : goal.invariant-loop
invariant-loop l = Shown l.fn.world l.world l.counter
