use Rattle.h5w_several_creating.proofs.laws.creates_each.Goals as goal
use Rattle.h5w_several_creating.proofs.StandLemmas as lemmas

pub returns : goal.returns
returns c = lemmas.creates_each
