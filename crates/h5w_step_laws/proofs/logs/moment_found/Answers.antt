use Rattle.h5w_step_laws.proofs.FoundLemmas as lemmas
use Rattle.h5w_step_laws.proofs.logs.moment_found.Goals as goal

pub returns : goal.returns
returns c = lemmas.moment_found
