use Rattle.h5w_ea_index.proofs.StandingLemmas.{opened_stands}
use Rattle.h5w_ea_index.proofs.laws.opened_stands.Goals as goal

pub returns : goal.returns
returns c = opened_stands
