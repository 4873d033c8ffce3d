use Rattle.h5w_several_laws.proofs.beside.disjoint_joined.Goals as goal
use Rattle.h5w_several_laws.proofs.BesideLemmas as lemmas

pub returns : goal.returns
returns c = lemmas.disjoint_joined
