use Rattle.h5w_several_open.proofs.laws.all_apart.Goals as goal
use Rattle.h5w_several_open.proofs.DatasetLemmas as lemmas

pub returns : goal.returns
returns c = lemmas.all_apart
