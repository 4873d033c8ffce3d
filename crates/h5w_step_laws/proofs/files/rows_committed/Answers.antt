use Rattle.h5w_step_laws.proofs.files.rows_committed.Goals as goal
use Rattle.h5w_step_laws.proofs.FileLaws as lemmas

pub returns : goal.returns
returns c = lemmas.rows_committed
