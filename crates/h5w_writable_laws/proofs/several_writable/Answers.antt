use Rattle.h5w_writable_laws.proofs.several_writable.Goals as goal
use Rattle.h5w_writable_laws.proofs.SeveralLemmas as lemmas

pub returns : goal.returns
returns c = lemmas.several_writable
