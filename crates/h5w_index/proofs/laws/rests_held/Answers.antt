use Rattle.h5w_index.proofs.PartLemmas.{rests_held}
use Rattle.h5w_index.proofs.laws.rests_held.Goals as goal

pub returns : goal.returns
returns c = rests_held
