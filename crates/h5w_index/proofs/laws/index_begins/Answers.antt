use Rattle.h5w_index.proofs.BeginLemmas.{index_begins}
use Rattle.h5w_index.proofs.laws.index_begins.Goals as goal

pub returns : goal.returns
returns c = index_begins
