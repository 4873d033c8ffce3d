use Rattle.h5w_several_laws.proofs.logs.seen_laws.Goals as goal
use Rattle.h5w_several_laws.proofs.SeenLemmas as lemmas

pub returns : goal.returns
returns c = lemmas.seen_laws
