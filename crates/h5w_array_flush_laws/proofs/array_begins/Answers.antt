use Rattle.h5w_array_flush_laws.proofs.array_begins.Goals as goal
use Rattle.h5w_array_flush_laws.proofs.ArrayBeginLemmas as lemmas

pub returns : goal.returns
returns c = lemmas.array_begins
