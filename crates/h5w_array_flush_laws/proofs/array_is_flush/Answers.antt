use Rattle.h5w_array_flush_laws.proofs.array_is_flush.Goals as goal
use Rattle.h5w_array_flush_laws.proofs.ArrayLaws as lemmas

pub returns : goal.returns
returns c = lemmas.array_is_flush
