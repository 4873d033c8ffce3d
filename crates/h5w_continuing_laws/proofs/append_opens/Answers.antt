use Rattle.h5w_continuing_laws.proofs.append_opens.Goals as goal
use Rattle.h5w_continuing_laws.proofs.ContinueLemmas as lemmas

pub returns : goal.returns
returns c = lemmas.append_opens
