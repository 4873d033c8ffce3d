use Rattle.h5w_step_laws.proofs.GoesLemmas as lemmas
use Rattle.h5w_step_laws.proofs.logs.begin_goes.Goals as goal

pub returns : goal.returns
returns c = lemmas.begin_goes
