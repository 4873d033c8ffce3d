use Rattle.h5w_takeover_laws.proofs.one.carries_one.Goals as goal
use Rattle.h5w_takeover_laws.proofs.OneLemmas as lemmas

pub returns : goal.returns
returns c = lemmas.carries_one
