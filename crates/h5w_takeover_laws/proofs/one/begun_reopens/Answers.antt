use Rattle.h5w_takeover_laws.proofs.one.begun_reopens.Goals as goal
use Rattle.h5w_takeover_laws.proofs.RefusedLemmas as lemmas

pub returns : goal.returns
returns c = lemmas.begun_reopens
