use Rattle.h5w_step_laws.proofs.SessionLaws as lemmas
use Rattle.h5w_step_laws.proofs.sessions.piece_runs.Goals as goal

pub returns : goal.returns
returns c = lemmas.piece_runs
