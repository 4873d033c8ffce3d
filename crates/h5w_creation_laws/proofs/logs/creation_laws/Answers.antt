use Rattle.h5w_creation_laws.proofs.logs.creation_laws.Goals as goal
use Rattle.h5w_creation_laws.proofs.LogLaws as lemmas

pub returns : goal.returns
returns c = lemmas.creation_laws
