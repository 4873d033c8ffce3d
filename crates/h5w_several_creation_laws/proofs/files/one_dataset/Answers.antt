use Rattle.h5w_several_creation_laws.proofs.files.one_dataset.Goals as goal
use Rattle.h5w_several_creation_laws.proofs.OneLemmas as lemmas

pub returns : goal.returns
returns c = lemmas.one_dataset
