use Rattle.h5w_tree_starting_laws.proofs.TreeLeadLemmas.{tree_start_leads}
use Rattle.h5w_tree_starting_laws.proofs.tree_start_leads.Goals as goal

pub returns : goal.returns
returns c = tree_start_leads
