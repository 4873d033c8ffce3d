use Rattle.h5w_tree_index_laws.proofs.TreePlaceLemmas.{tree_places}
use Rattle.h5w_tree_index_laws.proofs.tree_places.Goals as goal

pub returns : goal.returns
returns c = tree_places
