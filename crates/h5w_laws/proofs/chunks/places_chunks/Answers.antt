use Rattle.h5w_laws.proofs.NumberLemmas.{places_chunks}
use Rattle.h5w_laws.proofs.chunks.places_chunks.Goals as goal

pub returns : goal.returns
returns c = places_chunks
