use Rattle.h5w_tree_index_laws.proofs.TreeStandLemmas.{tree_is_read}
use Rattle.h5w_tree_index_laws.proofs.tree_is_read.Goals as goal

pub returns : goal.returns
returns c = tree_is_read
