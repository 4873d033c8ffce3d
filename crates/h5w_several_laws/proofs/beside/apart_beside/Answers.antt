use Rattle.h5w_several_laws.proofs.beside.apart_beside.Goals as goal
use Rattle.h5w_several_laws.proofs.BesideLemmas as lemmas

pub returns : goal.returns
returns c = lemmas.apart_beside
