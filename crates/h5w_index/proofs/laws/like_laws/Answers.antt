use Rattle.h5w_index.proofs.ToldLemmas.{like_laws}
use Rattle.h5w_index.proofs.laws.like_laws.Goals as goal

pub returns : goal.returns
returns c = like_laws
