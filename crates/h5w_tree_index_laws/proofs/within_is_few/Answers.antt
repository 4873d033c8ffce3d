use Rattle.h5w_tree_index_laws.proofs.TreeDepthLemmas.{within_is_few}
use Rattle.h5w_tree_index_laws.proofs.within_is_few.Goals as goal

pub returns : goal.returns
returns c = within_is_few
