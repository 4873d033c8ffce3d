use Rattle.h5w_several_laws.proofs.beside.settled_apart.Goals as goal
use Rattle.h5w_several_laws.proofs.BesideLemmas as lemmas

pub returns : goal.returns
returns c = lemmas.settled_apart
