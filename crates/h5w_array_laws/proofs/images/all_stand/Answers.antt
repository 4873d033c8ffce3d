use Rattle.h5w_array_laws.proofs.images.all_stand.Goals as goal
use Rattle.h5w_array_laws.proofs.PlanLemmas as lemmas

pub returns : goal.returns
returns c = lemmas.all_stand
