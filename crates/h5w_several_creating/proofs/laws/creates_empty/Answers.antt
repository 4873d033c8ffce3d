use Rattle.h5w_several_creating.proofs.laws.creates_empty.Goals as goal
use Rattle.h5w_several_creating.proofs.EmptyLemmas as lemmas

pub returns : goal.returns
returns c = lemmas.creates_empty
