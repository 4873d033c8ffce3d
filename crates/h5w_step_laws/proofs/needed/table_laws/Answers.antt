use Rattle.h5w_step_laws.proofs.needed.table_laws.Goals as goal
use Rattle.h5w_step_laws.proofs.NeededLaws as lemmas

pub returns : goal.returns
returns c = lemmas.table_laws
