use Rattle.h5w_step_laws.proofs.WriterLaws as lemmas
use Rattle.h5w_step_laws.proofs.writers.naming_switches.Goals as goal

pub returns : goal.returns
returns c = lemmas.naming_switches
