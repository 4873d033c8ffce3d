use Rattle.std.proofs.Common.{◌-◌}
use Rattle.h5w_several_playing.proofs.ScriptLemmas.{Looked}
use Rattle.h5w_several_playing.proofs.script.look.Given as goal

abbrev pub invariant-loop : goal.invariant-loop
invariant-loop l = Looked l.fn.world l.world l.fn.reader (l.counter - 1)
