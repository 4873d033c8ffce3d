use Rattle.h5w_flush_laws.proofs.flushes.file_once.Goals as goal
use Rattle.h5w_flush_laws.proofs.OnceLaws as lemmas

pub returns : goal.returns
returns c = lemmas.file_once
