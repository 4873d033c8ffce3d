use Rattle.h5w_first_flush_laws.proofs.first.first_runs.Goals as goal
use Rattle.h5w_first_flush_laws.proofs.FirstFlushLemmas as lemmas

pub returns : goal.returns
returns c = lemmas.first_runs
