use Rattle.h5w_several_laws.proofs.beside.beside_held.Goals as goal
use Rattle.h5w_several_laws.proofs.HeldLemmas as lemmas

pub returns : goal.returns
returns c = lemmas.beside_held
