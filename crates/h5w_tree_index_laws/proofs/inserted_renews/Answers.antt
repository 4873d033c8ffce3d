use Rattle.h5w_tree_index_laws.proofs.TreeMapLemmas.{inserted_renews}
use Rattle.h5w_tree_index_laws.proofs.inserted_renews.Goals as goal

pub returns : goal.returns
returns c = inserted_renews
