use Rattle.h5w_session_examples.proofs.flushes.first_flush.Goals as goal
use Rattle.h5w_session_examples.proofs.FirstLemmas as lemmas

pub returns : goal.returns
returns c = lemmas.first_flush
