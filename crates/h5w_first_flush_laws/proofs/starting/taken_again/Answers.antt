use Rattle.h5w_first_flush_laws.proofs.starting.taken_again.Goals as goal
use Rattle.h5w_first_flush_laws.proofs.TakenLemmas as lemmas

pub returns : goal.returns
returns c = lemmas.taken_again
