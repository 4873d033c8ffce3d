use Rattle.h5w_step_laws.proofs.PlanLaws as lemmas
use Rattle.h5w_step_laws.proofs.places.free_place.Goals as goal

pub returns : goal.returns
returns c = lemmas.free_place
