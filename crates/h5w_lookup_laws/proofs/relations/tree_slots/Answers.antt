use Rattle.h5w_lookup_laws.proofs.TreeLemmas.{finds_tree_slots}
use Rattle.h5w_lookup_laws.proofs.relations.tree_slots.Goals as goal

pub returns : goal.returns
returns c = finds_tree_slots
