use Rattle.h5w_step_laws.proofs.steps.growing_step.Goals as goal
use Rattle.h5w_step_laws.proofs.StepLaws as lemmas

pub returns : goal.returns
returns c = lemmas.growing_step
