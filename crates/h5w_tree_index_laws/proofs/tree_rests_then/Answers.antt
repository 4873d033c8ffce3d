use Rattle.h5w_tree_index_laws.proofs.TreeRestLemmas.{tree_rests_then}
use Rattle.h5w_tree_index_laws.proofs.tree_rests_then.Goals as goal

pub returns : goal.returns
returns c = tree_rests_then
