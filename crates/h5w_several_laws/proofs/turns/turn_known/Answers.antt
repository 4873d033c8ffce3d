use Rattle.h5w_several_laws.proofs.turns.turn_known.Goals as goal
use Rattle.h5w_several_laws.proofs.TurnLemmas as lemmas

pub returns : goal.returns
returns c = lemmas.turn_known
