use Rattle.h5w_takeover_laws.proofs.several.stays_alike.Goals as goal
use Rattle.h5w_takeover_laws.proofs.AlikeLemmas as lemmas

pub returns : goal.returns
returns c = lemmas.stays_alike
