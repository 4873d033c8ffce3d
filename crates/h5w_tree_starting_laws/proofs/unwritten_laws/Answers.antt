use Rattle.h5w_tree_starting_laws.proofs.UnwrittenLemmas.{unwritten_laws}
use Rattle.h5w_tree_starting_laws.proofs.unwritten_laws.Goals as goal

pub returns : goal.returns
returns c = unwritten_laws
