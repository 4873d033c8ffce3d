use Rattle.h5w_first_flush_laws.proofs.flushes.start_is_flush.Goals as goal
use Rattle.h5w_first_flush_laws.proofs.StartFlushLemmas as lemmas

pub returns : goal.returns
returns c = lemmas.start_is_flush
