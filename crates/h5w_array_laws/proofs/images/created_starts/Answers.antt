use Rattle.h5w_array_laws.proofs.CreatedLemmas as lemmas
use Rattle.h5w_array_laws.proofs.images.created_starts.Goals as goal

pub returns : goal.returns
returns c = lemmas.created_starts
