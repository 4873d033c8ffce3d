use Rattle.h5w_step_laws.proofs.spelled.spelled_read.Goals as goal
use Rattle.h5w_step_laws.proofs.SpelledLemmas as lemmas

pub returns : goal.returns
returns c = lemmas.spelled_read
