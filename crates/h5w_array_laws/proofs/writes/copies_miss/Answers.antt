use Rattle.h5w_array_laws.proofs.WriteLemmas as lemmas
use Rattle.h5w_array_laws.proofs.writes.copies_miss.Goals as goal

pub returns : goal.returns
returns c = lemmas.copies_miss
