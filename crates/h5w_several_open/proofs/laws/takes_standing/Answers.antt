use Rattle.h5w_several_open.proofs.laws.takes_standing.Goals as goal
use Rattle.h5w_several_open.proofs.TakenLemmas as lemmas

pub returns : goal.returns
returns c = lemmas.takes_standing
