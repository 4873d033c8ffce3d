use Rattle.h5w_index.proofs.ReachLemmas.{reach_laws}
use Rattle.h5w_index.proofs.laws.reach_laws.Goals as goal

pub returns : goal.returns
returns c = reach_laws
