use Rattle.h5w_step_laws.proofs.indexes.visited_behind.Goals as goal
use Rattle.h5w_step_laws.proofs.IndexLaws as lemmas

pub returns : goal.returns
returns c = lemmas.visited_behind
