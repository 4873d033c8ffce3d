use Rattle.h5w_flush_laws.proofs.rows.rows_flush.Goals as goal
use Rattle.h5w_flush_laws.proofs.RowsLaws as lemmas

pub returns : goal.returns
returns c = lemmas.rows_flush
