use Rattle.h5w_takeover_laws.proofs.one.answers_session.Goals as goal
use Rattle.h5w_takeover_laws.proofs.RefusedLemmas as lemmas

pub returns : goal.returns
returns c = lemmas.answers_session
