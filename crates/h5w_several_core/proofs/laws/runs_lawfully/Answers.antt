use Rattle.h5w_several_core.proofs.RunLemmas as runs
use Rattle.h5w_several_core.proofs.laws.runs_lawfully.Goals as goal

pub returns : goal.returns
returns c = runs.runs_lawfully
