use Rattle.h5w_step_laws.proofs.PlanLaws as lemmas
use Rattle.h5w_step_laws.proofs.places.past_end.Goals as goal

pub returns : goal.returns
returns c = lemmas.past_end
