use Rattle.h5w_array_laws.proofs.NamingLemmas as lemmas
use Rattle.h5w_array_laws.proofs.naming.more_apart.Goals as goal

pub returns : goal.returns
returns c = lemmas.more_apart
