use Rattle.h5w_writable_laws.proofs.writable_found.Goals as goal
use Rattle.h5w_writable_laws.proofs.FindsLemmas as lemmas

pub returns : goal.returns
returns c = lemmas.writable_found
