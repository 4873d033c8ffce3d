use Rattle.h5w_array_flush_laws.proofs.array_places.Goals as goal
use Rattle.h5w_array_flush_laws.proofs.ArrayPlaceLemmas as lemmas

pub returns : goal.returns
returns c = lemmas.array_places
