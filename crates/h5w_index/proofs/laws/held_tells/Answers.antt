use Rattle.h5w_index.proofs.ToldLemmas.{held_tells}
use Rattle.h5w_index.proofs.laws.held_tells.Goals as goal

pub returns : goal.returns
returns c = held_tells
