use Rattle.h5w_several_laws.proofs.logs.settled_laws.Goals as goal
use Rattle.h5w_several_laws.proofs.SettledLemmas as lemmas

pub returns : goal.returns
returns c = lemmas.settled_laws
