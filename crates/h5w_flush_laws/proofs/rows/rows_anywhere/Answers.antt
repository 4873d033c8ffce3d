use Rattle.h5w_flush_laws.proofs.rows.rows_anywhere.Goals as goal
use Rattle.h5w_flush_laws.proofs.NewChunkLemmas as lemmas

pub returns : goal.returns
returns c = lemmas.rows_anywhere
