use Rattle.h5w_tree_index_laws.proofs.TreeRestLemmas.{tree_begins}
use Rattle.h5w_tree_index_laws.proofs.tree_begins.Goals as goal

pub returns : goal.returns
returns c = tree_begins
