use Rattle.h5w_step_laws.proofs.PlanLaws as lemmas
use Rattle.h5w_step_laws.proofs.places.retired_place.Goals as goal

pub returns : goal.returns
returns c = lemmas.retired_place
