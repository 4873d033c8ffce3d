use Rattle.h5w_creation_laws.proofs.files.created_known.Goals as goal
use Rattle.h5w_creation_laws.proofs.CreatedLaws as lemmas

pub returns : goal.returns
returns c = lemmas.created_known
