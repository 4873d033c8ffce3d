use Rattle.h5w_several_laws.proofs.turns.turn_runs.Goals as goal
use Rattle.h5w_several_laws.proofs.RunLemmas as lemmas

pub returns : goal.returns
returns c = lemmas.turn_runs
