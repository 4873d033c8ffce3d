use Rattle.h5w_takeover_laws.proofs.several.answers_all.Goals as goal
use Rattle.h5w_takeover_laws.proofs.CreatedLemmas as lemmas

pub returns : goal.returns
returns c = lemmas.answers_all
