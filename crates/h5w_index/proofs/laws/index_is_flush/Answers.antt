use Rattle.h5w_index.proofs.FlushLemmas.{index_is_flush}
use Rattle.h5w_index.proofs.laws.index_is_flush.Goals as goal

pub returns : goal.returns
returns c = index_is_flush
