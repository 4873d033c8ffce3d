use Rattle.h5w_tree_index_laws.proofs.TreeFlushLemmas.{tree_flushed}
use Rattle.h5w_tree_index_laws.proofs.tree_flushed.Goals as goal

pub returns : goal.returns
returns c = tree_flushed
