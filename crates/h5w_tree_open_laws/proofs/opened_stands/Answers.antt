use Rattle.h5w_tree_open_laws.proofs.OpenedStandLemmas.{opened_stands}
use Rattle.h5w_tree_open_laws.proofs.opened_stands.Goals as goal

pub returns : goal.returns
returns c = opened_stands
