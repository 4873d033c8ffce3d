use Rattle.h5w_takeover_laws.proofs.several.carries_all.Goals as goal
use Rattle.h5w_takeover_laws.proofs.CarryAllLemmas as lemmas

pub returns : goal.returns
returns c = lemmas.carries_all
