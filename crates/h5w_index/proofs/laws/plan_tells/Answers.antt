use Rattle.h5w_index.proofs.FlushLemmas.{plan_tells}
use Rattle.h5w_index.proofs.laws.plan_tells.Goals as goal

pub returns : goal.returns
returns c = plan_tells
