use Rattle.h5w_takeover_laws.proofs.one.created_told.Goals as goal
use Rattle.h5w_takeover_laws.proofs.OneLemmas as lemmas

pub returns : goal.returns
returns c = lemmas.created_told
