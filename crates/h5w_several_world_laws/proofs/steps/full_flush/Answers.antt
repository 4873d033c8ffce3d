use Rattle.h5w_several_world_laws.proofs.FullLemmas.{full_step}
use Rattle.h5w_several_world_laws.proofs.steps.full_flush.Goals as goal

pub returns : goal.returns
returns c = full_step
