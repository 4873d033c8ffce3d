use Rattle.h5w_first_flush_laws.proofs.starting.start_freed.Goals as goal
use Rattle.h5w_first_flush_laws.proofs.StartLemmas as lemmas

pub returns : goal.returns
returns c = lemmas.start_freed
