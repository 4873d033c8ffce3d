use Rattle.h5w_step_laws.proofs.files.growing_header.Goals as goal
use Rattle.h5w_step_laws.proofs.FileLaws as lemmas

pub returns : goal.returns
returns c = lemmas.growing_header
