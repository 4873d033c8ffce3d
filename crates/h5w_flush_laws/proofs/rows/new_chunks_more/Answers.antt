use Rattle.h5w_flush_laws.proofs.rows.new_chunks_more.Goals as goal
use Rattle.h5w_flush_laws.proofs.NewChunkLemmas as lemmas

pub returns : goal.returns
returns c = lemmas.new_chunks_more
