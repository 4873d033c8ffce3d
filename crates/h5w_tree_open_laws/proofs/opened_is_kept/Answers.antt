use Rattle.h5w_tree_open_laws.proofs.KeptLemmas.{opened_is_kept}
use Rattle.h5w_tree_open_laws.proofs.opened_is_kept.Goals as goal

pub returns : goal.returns
returns c = opened_is_kept
