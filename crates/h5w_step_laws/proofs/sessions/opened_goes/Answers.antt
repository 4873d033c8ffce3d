use Rattle.h5w_step_laws.proofs.SessionLaws as lemmas
use Rattle.h5w_step_laws.proofs.sessions.opened_goes.Goals as goal

pub returns : goal.returns
returns c = lemmas.opened_goes
