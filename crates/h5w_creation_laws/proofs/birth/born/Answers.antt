use Rattle.h5w_creation_laws.proofs.birth.born.Goals as goal
use Rattle.h5w_creation_laws.proofs.BornLemmas as lemmas

pub returns : goal.returns
returns c = lemmas.born
