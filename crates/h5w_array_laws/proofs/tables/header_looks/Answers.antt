use Rattle.h5w_array_laws.proofs.StandLemmas as lemmas
use Rattle.h5w_array_laws.proofs.tables.header_looks.Goals as goal

pub returns : goal.returns
returns c = lemmas.header_looks
