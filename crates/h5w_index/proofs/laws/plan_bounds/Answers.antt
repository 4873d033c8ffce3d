use Rattle.h5w_index.proofs.MarkLemmas.{plan_bounds}
use Rattle.h5w_index.proofs.laws.plan_bounds.Goals as goal

pub returns : goal.returns
returns c = plan_bounds
