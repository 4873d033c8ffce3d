use Rattle.h5w_several_creation_laws.proofs.files.several_sizes.Goals as goal
use Rattle.h5w_several_creation_laws.proofs.StandLaws as lemmas

pub returns : goal.returns
returns c = lemmas.several_sizes
