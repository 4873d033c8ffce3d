use Rattle.h5w_several_laws.proofs.together.flush_stays_valid.Goals as goal
use Rattle.h5w_several_laws.proofs.TogetherLemmas as lemmas

pub returns : goal.returns
returns c = lemmas.flush_stays_valid
