use Rattle.h5w_tree_index_laws.proofs.TreeInsertLemmas.{inserted_behind}
use Rattle.h5w_tree_index_laws.proofs.inserted_behind.Goals as goal

pub returns : goal.returns
returns c = inserted_behind
