use Rattle.h5w_tree_starting_laws.proofs.TreeStartCallLemmas.{tree_start_calls}
use Rattle.h5w_tree_starting_laws.proofs.tree_start_calls.Goals as goal

pub returns : goal.returns
returns c = tree_start_calls
