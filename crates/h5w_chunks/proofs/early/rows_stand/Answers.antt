use Rattle.h5w_chunks.proofs.early.rows_stand.Goals as goal
use Rattle.h5w_chunks.proofs.EarlyLemmas as lemmas

pub returns : goal.returns
returns c = lemmas.rows_stand
