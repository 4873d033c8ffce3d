use Rattle.h5w_index.proofs.FlushLemmas.{rests_freed}
use Rattle.h5w_index.proofs.laws.rests_freed.Goals as goal

pub returns : goal.returns
returns c = rests_freed
