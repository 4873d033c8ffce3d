use Rattle.h5w_chunks.proofs.early.early_joins.Goals as goal
use Rattle.h5w_chunks.proofs.EarlyLemmas as lemmas

pub returns : goal.returns
returns c = lemmas.early_joins
