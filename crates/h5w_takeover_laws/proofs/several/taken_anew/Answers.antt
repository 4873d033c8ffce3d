use Rattle.h5w_takeover_laws.proofs.several.taken_anew.Goals as goal
use Rattle.h5w_takeover_laws.proofs.AnewLemmas as lemmas

pub returns : goal.returns
returns c = lemmas.taken_anew
