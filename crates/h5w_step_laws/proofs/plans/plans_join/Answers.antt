use Rattle.h5w_step_laws.proofs.PlanLaws as lemmas
use Rattle.h5w_step_laws.proofs.plans.plans_join.Goals as goal

pub returns : goal.returns
returns c = lemmas.plans_join
