use Rattle.h5w_flush_laws.proofs.flushes.early_blocks.Goals as goal
use Rattle.h5w_flush_laws.proofs.KnownLaws as lemmas

pub returns : goal.returns
returns c = lemmas.early_blocks
