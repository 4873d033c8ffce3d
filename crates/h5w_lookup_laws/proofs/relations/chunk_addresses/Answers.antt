use Rattle.h5w_lookup_laws.proofs.ReadingLemmas.{finds_chunks}
use Rattle.h5w_lookup_laws.proofs.relations.chunk_addresses.Goals as goal

pub returns : goal.returns
returns c = finds_chunks
