use Rattle.h5w_array_laws.proofs.images.in_place_says.Goals as goal
use Rattle.h5w_array_laws.proofs.PlanLemmas as lemmas

pub returns : goal.returns
returns c = lemmas.in_place_says
