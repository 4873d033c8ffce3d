use Rattle.h5w_step_laws.proofs.PlanLaws as lemmas
use Rattle.h5w_step_laws.proofs.plans.flush_leads.Goals as goal

pub returns : goal.returns
returns c = lemmas.flush_leads
