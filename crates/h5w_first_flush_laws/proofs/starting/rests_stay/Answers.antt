use Rattle.h5w_first_flush_laws.proofs.starting.rests_stay.Goals as goal
use Rattle.h5w_first_flush_laws.proofs.StartLemmas as lemmas

pub returns : goal.returns
returns c = lemmas.rests_stay
