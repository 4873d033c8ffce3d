use Rattle.h5w_array_laws.proofs.images.copies_stand.Goals as goal
use Rattle.h5w_array_laws.proofs.PlanLemmas as lemmas

pub returns : goal.returns
returns c = lemmas.copies_stand
