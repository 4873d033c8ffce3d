use Rattle.h5w_step_laws.proofs.GoesLemmas as lemmas
use Rattle.h5w_step_laws.proofs.logs.piece_goes.Goals as goal

pub returns : goal.returns
returns c = lemmas.piece_goes
