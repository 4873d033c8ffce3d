use Rattle.h5w_step_laws.proofs.commits.index_written.Goals as goal
use Rattle.h5w_step_laws.proofs.CommitLaws as lemmas

pub returns : goal.returns
returns c = lemmas.index_written
