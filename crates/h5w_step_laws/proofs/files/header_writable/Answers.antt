use Rattle.h5w_step_laws.proofs.files.header_writable.Goals as goal
use Rattle.h5w_step_laws.proofs.FileLaws as lemmas

pub returns : goal.returns
returns c = lemmas.header_writable
