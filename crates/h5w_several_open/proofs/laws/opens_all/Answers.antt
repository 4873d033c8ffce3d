use Rattle.h5w_several_open.proofs.laws.opens_all.Goals as goal
use Rattle.h5w_several_open.proofs.BeginLemmas as lemmas

pub returns : goal.returns
returns c = lemmas.opens_all
