use Rattle.h5w_index.proofs.BeginLemmas.{rests_missed}
use Rattle.h5w_index.proofs.laws.rests_missed.Goals as goal

pub returns : goal.returns
returns c = rests_missed
