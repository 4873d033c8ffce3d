use Rattle.h5w_flush_laws.proofs.rows.early_rows.Goals as goal
use Rattle.h5w_flush_laws.proofs.EarlyRowsLemmas as lemmas

pub returns : goal.returns
returns c = lemmas.early_rows
