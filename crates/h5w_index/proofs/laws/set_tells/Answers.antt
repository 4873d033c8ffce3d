use Rattle.h5w_index.proofs.ToldLemmas.{set_tells}
use Rattle.h5w_index.proofs.laws.set_tells.Goals as goal

pub returns : goal.returns
returns c = set_tells
