use Rattle.h5w_step_laws.proofs.PlanLaws as lemmas
use Rattle.h5w_step_laws.proofs.plans.plan_leads.Goals as goal

pub returns : goal.returns
returns c = lemmas.plan_leads
