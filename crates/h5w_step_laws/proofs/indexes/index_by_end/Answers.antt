use Rattle.h5w_step_laws.proofs.indexes.index_by_end.Goals as goal
use Rattle.h5w_step_laws.proofs.IndexLaws as lemmas

pub returns : goal.returns
returns c = lemmas.index_by_end
