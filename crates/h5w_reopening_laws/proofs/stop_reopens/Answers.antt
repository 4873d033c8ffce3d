use Rattle.h5w_reopening_laws.proofs.stop_reopens.Goals as goal
use Rattle.h5w_reopening_laws.proofs.StopLemmas as lemmas

pub returns : goal.returns
returns c = lemmas.stop_reopens
