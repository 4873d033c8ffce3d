use Rattle.h5w_tree_open_laws.proofs.OpenedEndLemmas.{opened_ends}
use Rattle.h5w_tree_open_laws.proofs.opened_ends.Goals as goal

pub returns : goal.returns
returns c = opened_ends
