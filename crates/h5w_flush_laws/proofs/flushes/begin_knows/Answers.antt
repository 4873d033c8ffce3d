use Rattle.h5w_flush_laws.proofs.flushes.begin_knows.Goals as goal
use Rattle.h5w_flush_laws.proofs.KnownLaws as lemmas

pub returns : goal.returns
returns c = lemmas.begin_knows
