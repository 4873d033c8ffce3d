use Rattle.h5w_flush_laws.proofs.rows.places_apart.Goals as goal
use Rattle.h5w_flush_laws.proofs.ChunkPlaceLemmas as lemmas

pub returns : goal.returns
returns c = lemmas.places_apart
