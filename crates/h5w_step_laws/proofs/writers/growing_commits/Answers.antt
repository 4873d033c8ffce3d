use Rattle.h5w_step_laws.proofs.WriterLaws as lemmas
use Rattle.h5w_step_laws.proofs.writers.growing_commits.Goals as goal

pub returns : goal.returns
returns c = lemmas.growing_commits
