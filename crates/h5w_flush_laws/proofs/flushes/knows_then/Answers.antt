use Rattle.h5w_flush_laws.proofs.flushes.knows_then.Goals as goal
use Rattle.h5w_flush_laws.proofs.FlushLaws as lemmas

pub returns : goal.returns
returns c = lemmas.knows_then
