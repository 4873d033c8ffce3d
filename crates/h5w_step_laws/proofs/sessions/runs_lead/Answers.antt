use Rattle.h5w_step_laws.proofs.SessionLaws as lemmas
use Rattle.h5w_step_laws.proofs.sessions.runs_lead.Goals as goal

pub returns : goal.returns
returns c = lemmas.runs_lead
