use Rattle.h5w_tree_index_laws.proofs.TreeDepthLemmas.{deep_is_many}
use Rattle.h5w_tree_index_laws.proofs.deep_is_many.Goals as goal

pub returns : goal.returns
returns c = deep_is_many
