use Rattle.h5w_first_flush_laws.proofs.calls.two_taken.Goals as goal
use Rattle.h5w_first_flush_laws.proofs.StartCallLemmas as lemmas

pub returns : goal.returns
returns c = lemmas.two_taken
