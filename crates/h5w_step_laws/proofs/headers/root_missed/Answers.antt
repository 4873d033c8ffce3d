use Rattle.h5w_step_laws.proofs.headers.root_missed.Goals as goal
use Rattle.h5w_step_laws.proofs.HeaderLaws as lemmas

pub returns : goal.returns
returns c = lemmas.root_missed
