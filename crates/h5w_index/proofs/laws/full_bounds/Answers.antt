use Rattle.h5w_index.proofs.MarkLemmas.{full_bounds}
use Rattle.h5w_index.proofs.laws.full_bounds.Goals as goal

pub returns : goal.returns
returns c = full_bounds
