use Rattle.h5w_index.proofs.PartlyLemmas.{own_laws}
use Rattle.h5w_index.proofs.laws.own_laws.Goals as goal

pub returns : goal.returns
returns c = own_laws
