use Rattle.h5w_flush_laws.proofs.flushes.flush_safe.Goals as goal
use Rattle.h5w_flush_laws.proofs.FlushLaws as lemmas

pub returns : goal.returns
returns c = lemmas.flush_safe
