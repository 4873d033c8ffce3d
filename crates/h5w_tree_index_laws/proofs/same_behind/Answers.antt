use Rattle.h5w_tree_index_laws.proofs.TreeMapLemmas.{same_behind}
use Rattle.h5w_tree_index_laws.proofs.same_behind.Goals as goal

pub returns : goal.returns
returns c = same_behind
