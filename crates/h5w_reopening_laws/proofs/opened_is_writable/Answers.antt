use Rattle.h5w_reopening_laws.proofs.opened_is_writable.Goals as goal
use Rattle.h5w_reopening_laws.proofs.StopLemmas as lemmas

pub returns : goal.returns
returns c = lemmas.opened_is_writable
