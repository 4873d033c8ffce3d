use Rattle.h5w_step_laws.proofs.headers.header_tells.Goals as goal
use Rattle.h5w_step_laws.proofs.HeaderLaws as lemmas

pub returns : goal.returns
returns c = lemmas.header_tells
