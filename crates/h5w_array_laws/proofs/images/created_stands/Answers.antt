use Rattle.h5w_array_laws.proofs.images.created_stands.Goals as goal
use Rattle.h5w_array_laws.proofs.CreatedLemmas as lemmas

pub returns : goal.returns
returns c = lemmas.created_stands
