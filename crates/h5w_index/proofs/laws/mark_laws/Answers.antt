use Rattle.h5w_index.proofs.MarkLemmas.{mark_laws}
use Rattle.h5w_index.proofs.laws.mark_laws.Goals as goal

pub returns : goal.returns
returns c = mark_laws
