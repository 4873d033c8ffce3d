use Rattle.h5w_continuing_laws.proofs.takeover_begins.Goals as goal
use Rattle.h5w_continuing_laws.proofs.ContinueLemmas as lemmas

pub returns : goal.returns
returns c = lemmas.takeover_begins
