use Rattle.h5w_step_laws.proofs.WriterLaws as lemmas
use Rattle.h5w_step_laws.proofs.writers.starting_commits.Goals as goal

pub returns : goal.returns
returns c = lemmas.starting_commits
