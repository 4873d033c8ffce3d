use Rattle.h5w_step_laws.proofs.FoundLemmas as lemmas
use Rattle.h5w_step_laws.proofs.sessions.opens.Goals as goal

pub returns : goal.returns
returns c = lemmas.opens
