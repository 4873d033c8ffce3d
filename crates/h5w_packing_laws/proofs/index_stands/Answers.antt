use Rattle.h5w_packing_laws.proofs.StandLemmas.{index_stands}
use Rattle.h5w_packing_laws.proofs.index_stands.Goals as goal

pub returns : goal.returns
returns c = index_stands
