use Rattle.h5w_index.proofs.ToldLemmas.{unset_tells}
use Rattle.h5w_index.proofs.laws.unset_tells.Goals as goal

pub returns : goal.returns
returns c = unset_tells
