use Rattle.h5w_takeover_laws.proofs.one.answers_one.Goals as goal
use Rattle.h5w_takeover_laws.proofs.OneLemmas as lemmas

pub returns : goal.returns
returns c = lemmas.answers_one
