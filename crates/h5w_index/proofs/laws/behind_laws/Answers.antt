use Rattle.h5w_index.proofs.laws.behind_laws.Goals as goal
use Rattle.h5w_index.proofs.BehindLemmas as lemmas

pub returns : goal.returns
returns c = lemmas.behind_laws
