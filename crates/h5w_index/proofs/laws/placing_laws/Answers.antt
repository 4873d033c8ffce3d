use Rattle.h5w_index.proofs.PlacingLemmas.{placing_laws}
use Rattle.h5w_index.proofs.laws.placing_laws.Goals as goal

pub returns : goal.returns
returns c = placing_laws
