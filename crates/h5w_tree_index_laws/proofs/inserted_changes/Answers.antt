use Rattle.h5w_tree_index_laws.proofs.TreeChangeLemmas.{inserted_changes}
use Rattle.h5w_tree_index_laws.proofs.inserted_changes.Goals as goal

pub returns : goal.returns
returns c = inserted_changes
