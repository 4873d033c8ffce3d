use Rattle.h5w_several_laws.proofs.logs.takes_over.Goals as goal
use Rattle.h5w_several_laws.proofs.TakeLemmas as lemmas

pub returns : goal.returns
returns c = lemmas.takes_over
