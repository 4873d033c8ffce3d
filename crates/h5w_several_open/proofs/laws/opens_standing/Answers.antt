use Rattle.h5w_several_open.proofs.laws.opens_standing.Goals as goal
use Rattle.h5w_several_open.proofs.StandLemmas as lemmas

pub returns : goal.returns
returns c = lemmas.opens_standing
