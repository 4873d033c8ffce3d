use Rattle.h5w_tree_index_laws.proofs.TreeLaws.{tree_is_flush}
use Rattle.h5w_tree_index_laws.proofs.tree_is_flush.Goals as goal

pub returns : goal.returns
returns c = tree_is_flush
