use Rattle.h5w_continuing_laws.proofs.clear_clears.Goals as goal
use Rattle.h5w_continuing_laws.proofs.ClearedLemmas as lemmas

pub returns : goal.returns
returns c = lemmas.clear_clears
