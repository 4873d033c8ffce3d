use Rattle.h5w_flush_laws.proofs.spaces.taken_laws.Goals as goal
use Rattle.h5w_flush_laws.proofs.SpaceLemmas as lemmas

pub returns : goal.returns
returns c = lemmas.taken_laws
