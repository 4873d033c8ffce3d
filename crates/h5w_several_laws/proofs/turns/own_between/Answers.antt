use Rattle.h5w_several_laws.proofs.turns.own_between.Goals as goal
use Rattle.h5w_several_laws.proofs.BetweenLemmas as lemmas

pub returns : goal.returns
returns c = lemmas.own_between
