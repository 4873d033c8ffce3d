use Rattle.h5w_flush_laws.proofs.flushes.unseen_known.Goals as goal
use Rattle.h5w_flush_laws.proofs.KnownLaws as lemmas

pub returns : goal.returns
returns c = lemmas.unseen_known
