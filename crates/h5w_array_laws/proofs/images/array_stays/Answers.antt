use Rattle.h5w_array_laws.proofs.images.array_stays.Goals as goal
use Rattle.h5w_array_laws.proofs.StandLemmas as lemmas

pub returns : goal.returns
returns c = lemmas.array_stays
