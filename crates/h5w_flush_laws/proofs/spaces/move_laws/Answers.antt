use Rattle.h5w_flush_laws.proofs.spaces.move_laws.Goals as goal
use Rattle.h5w_flush_laws.proofs.SpaceLemmas as lemmas

pub returns : goal.returns
returns c = lemmas.move_laws
