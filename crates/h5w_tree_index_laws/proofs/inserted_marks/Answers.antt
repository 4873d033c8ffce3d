use Rattle.h5w_tree_index_laws.proofs.TreeMarkLemmas.{inserted_marks}
use Rattle.h5w_tree_index_laws.proofs.inserted_marks.Goals as goal

pub returns : goal.returns
returns c = inserted_marks
