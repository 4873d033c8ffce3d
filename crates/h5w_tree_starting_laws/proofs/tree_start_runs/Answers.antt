use Rattle.h5w_tree_starting_laws.proofs.TreeLeadLemmas.{tree_start_runs}
use Rattle.h5w_tree_starting_laws.proofs.tree_start_runs.Goals as goal

pub returns : goal.returns
returns c = tree_start_runs
