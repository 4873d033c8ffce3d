use Rattle.h5w_step_laws.proofs.GoesLemmas as lemmas
use Rattle.h5w_step_laws.proofs.logs.event_goes.Goals as goal

pub returns : goal.returns
returns c = lemmas.event_goes
