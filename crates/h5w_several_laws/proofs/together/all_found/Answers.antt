use Rattle.h5w_several_laws.proofs.together.all_found.Goals as goal
use Rattle.h5w_several_laws.proofs.TogetherLemmas as lemmas

pub returns : goal.returns
returns c = lemmas.all_found
