use Rattle.h5w_index.proofs.PartLemmas.{index_part}
use Rattle.h5w_index.proofs.laws.index_part.Goals as goal

pub returns : goal.returns
returns c = index_part
