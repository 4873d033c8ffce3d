use Rattle.h5w_takeover_laws.proofs.several.never_refused_all.Goals as goal
use Rattle.h5w_takeover_laws.proofs.AllRefusedLemmas as lemmas

pub returns : goal.returns
returns c = lemmas.never_refused_all
