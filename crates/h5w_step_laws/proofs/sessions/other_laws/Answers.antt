use Rattle.h5w_step_laws.proofs.SessionLaws as lemmas
use Rattle.h5w_step_laws.proofs.sessions.other_laws.Goals as goal

pub returns : goal.returns
returns c = lemmas.other_laws
