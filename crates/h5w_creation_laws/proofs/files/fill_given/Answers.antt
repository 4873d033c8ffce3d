use Rattle.h5w_creation_laws.proofs.files.fill_given.Goals as goal
use Rattle.h5w_creation_laws.proofs.SizeLemmas as lemmas

pub returns : goal.returns
returns c = lemmas.fill_by_value
