use Rattle.h5w_session_examples.proofs.starts.array_starts.Goals as goal
use Rattle.h5w_session_examples.proofs.CallLemmas as lemmas

pub returns : goal.returns
returns c = lemmas.array_starts
