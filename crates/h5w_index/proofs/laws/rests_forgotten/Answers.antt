use Rattle.h5w_index.proofs.FlushLemmas.{rests_forgotten}
use Rattle.h5w_index.proofs.laws.rests_forgotten.Goals as goal

pub returns : goal.returns
returns c = rests_forgotten
