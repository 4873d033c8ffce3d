use Rattle.h5w_step_laws.proofs.files.layout_missed.Goals as goal
use Rattle.h5w_step_laws.proofs.FileLaws as lemmas

pub returns : goal.returns
returns c = lemmas.layout_missed
