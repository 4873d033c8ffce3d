use Rattle.h5w_several_world_laws.proofs.HoldingLemmas.{logs_hold}
use Rattle.h5w_several_world_laws.proofs.steps.logs_hold.Goals as goal

pub returns : goal.returns
returns c = logs_hold
