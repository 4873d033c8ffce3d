use Rattle.h5w_array_flush_laws.proofs.array_flushed.Goals as goal
use Rattle.h5w_array_flush_laws.proofs.ArrayFlushLemmas as lemmas

pub returns : goal.returns
returns c = lemmas.array_flushed
