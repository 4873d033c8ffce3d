use Rattle.h5w_flush_laws.proofs.flushes.session_laws.Goals as goal
use Rattle.h5w_flush_laws.proofs.SessionLaws as lemmas

pub returns : goal.returns
returns c = lemmas.session_laws
