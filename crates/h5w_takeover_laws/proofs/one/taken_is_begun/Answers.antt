use Rattle.h5w_takeover_laws.proofs.one.taken_is_begun.Goals as goal
use Rattle.h5w_takeover_laws.proofs.RefusedLemmas as lemmas

pub returns : goal.returns
returns c = lemmas.taken_is_begun
