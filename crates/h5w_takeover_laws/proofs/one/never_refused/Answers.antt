use Rattle.h5w_takeover_laws.proofs.one.never_refused.Goals as goal
use Rattle.h5w_takeover_laws.proofs.RefusedLemmas as lemmas

pub returns : goal.returns
returns c = lemmas.never_refused
