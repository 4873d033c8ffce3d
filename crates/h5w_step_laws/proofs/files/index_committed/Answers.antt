use Rattle.h5w_step_laws.proofs.files.index_committed.Goals as goal
use Rattle.h5w_step_laws.proofs.FileLaws as lemmas

pub returns : goal.returns
returns c = lemmas.index_committed
