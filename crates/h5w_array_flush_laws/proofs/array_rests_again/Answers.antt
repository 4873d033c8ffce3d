use Rattle.h5w_array_flush_laws.proofs.array_rests_again.Goals as goal
use Rattle.h5w_array_flush_laws.proofs.ArrayRestLemmas as lemmas

pub returns : goal.returns
returns c = lemmas.array_rests_again
