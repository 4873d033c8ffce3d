use Rattle.h5w_writable_laws.proofs.created_writable.Goals as goal
use Rattle.h5w_writable_laws.proofs.CreatedLemmas as lemmas

pub returns : goal.returns
returns c = lemmas.created_writable
