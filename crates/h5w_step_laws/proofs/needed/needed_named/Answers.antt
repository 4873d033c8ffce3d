use Rattle.h5w_step_laws.proofs.needed.needed_named.Goals as goal
use Rattle.h5w_step_laws.proofs.NeededLaws as lemmas

pub returns : goal.returns
returns c = lemmas.needed_named
