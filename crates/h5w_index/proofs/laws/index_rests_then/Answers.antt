use Rattle.h5w_index.proofs.FlushLemmas.{index_rests_then}
use Rattle.h5w_index.proofs.laws.index_rests_then.Goals as goal

pub returns : goal.returns
returns c = index_rests_then
