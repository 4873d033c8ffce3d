use Rattle.h5w_flush_laws.proofs.flushes.freed_known.Goals as goal
use Rattle.h5w_flush_laws.proofs.FlushLaws as lemmas

pub returns : goal.returns
returns c = lemmas.freed_known
