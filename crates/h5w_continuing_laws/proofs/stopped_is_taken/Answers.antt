use Rattle.h5w_continuing_laws.proofs.stopped_is_taken.Goals as goal
use Rattle.h5w_continuing_laws.proofs.ContinueLemmas as lemmas

pub returns : goal.returns
returns c = lemmas.stopped_is_taken
