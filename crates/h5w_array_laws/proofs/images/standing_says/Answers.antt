use Rattle.h5w_array_laws.proofs.images.standing_says.Goals as goal
use Rattle.h5w_array_laws.proofs.StandLemmas as lemmas

pub returns : goal.returns
returns c = lemmas.standing_says
