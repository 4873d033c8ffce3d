use Rattle.h5w_several_laws.proofs.beside.beside_stays.Goals as goal
use Rattle.h5w_several_laws.proofs.BesideLemmas as lemmas

pub returns : goal.returns
returns c = lemmas.beside_stays
