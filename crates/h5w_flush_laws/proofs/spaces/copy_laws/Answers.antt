use Rattle.h5w_flush_laws.proofs.spaces.copy_laws.Goals as goal
use Rattle.h5w_flush_laws.proofs.CopyLemmas as lemmas

pub returns : goal.returns
returns c = lemmas.copy_laws
