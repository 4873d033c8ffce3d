use Rattle.h5w_core.proofs.RunLemmas as runs
use Rattle.h5w_core.proofs.laws.runs_lawfully.Goals as goal

pub returns : goal.returns
returns c = runs.runs_lawfully
