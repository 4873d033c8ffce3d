use Rattle.h5w_index.proofs.laws.naming_laws.Goals as goal
use Rattle.h5w_index.proofs.NamingLemmas as lemmas

pub returns : goal.returns
returns c = lemmas.naming_laws
