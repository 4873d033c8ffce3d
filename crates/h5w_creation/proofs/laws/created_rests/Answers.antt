use Rattle.h5w_creation.proofs.MadeLemmas.{created_rests}
use Rattle.h5w_creation.proofs.laws.created_rests.Goals as goal

pub returns : goal.returns
returns c = created_rests
