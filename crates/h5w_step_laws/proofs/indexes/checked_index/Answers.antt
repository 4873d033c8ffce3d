use Rattle.h5w_step_laws.proofs.indexes.checked_index.Goals as goal
use Rattle.h5w_step_laws.proofs.IndexLaws as lemmas

pub returns : goal.returns
returns c = lemmas.checked_index
