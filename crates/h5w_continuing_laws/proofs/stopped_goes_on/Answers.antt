use Rattle.h5w_continuing_laws.proofs.stopped_goes_on.Goals as goal
use Rattle.h5w_continuing_laws.proofs.ContinueLemmas as lemmas

pub returns : goal.returns
returns c = lemmas.stopped_goes_on
