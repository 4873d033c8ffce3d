use Rattle.h5w_array_laws.proofs.ArrayPlanLemmas as lemmas
use Rattle.h5w_array_laws.proofs.plans.plans_array.Goals as goal

pub returns : goal.returns
returns c = lemmas.plans_array
