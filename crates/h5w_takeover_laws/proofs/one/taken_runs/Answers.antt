use Rattle.h5w_takeover_laws.proofs.one.taken_runs.Goals as goal
use Rattle.h5w_takeover_laws.proofs.RestartLemmas as lemmas

pub returns : goal.returns
returns c = lemmas.taken_runs
