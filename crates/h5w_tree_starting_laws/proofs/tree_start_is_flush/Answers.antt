use Rattle.h5w_tree_starting_laws.proofs.TreeStartLemmas.{tree_start_is_flush}
use Rattle.h5w_tree_starting_laws.proofs.tree_start_is_flush.Goals as goal

pub returns : goal.returns
returns c = tree_start_is_flush
