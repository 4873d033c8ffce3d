use Rattle.h5w_flush_laws.proofs.flushes.rows_alone_flush.Goals as goal
use Rattle.h5w_flush_laws.proofs.AloneLemmas as lemmas

pub returns : goal.returns
returns c = lemmas.rows_alone_flush
