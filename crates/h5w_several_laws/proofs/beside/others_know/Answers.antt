use Rattle.h5w_several_laws.proofs.beside.others_know.Goals as goal
use Rattle.h5w_several_laws.proofs.OtherLemmas as lemmas

pub returns : goal.returns
returns c = lemmas.others_know
