use Rattle.h5w_session_examples.proofs.starts.unnamed_flush.Goals as goal
use Rattle.h5w_session_examples.proofs.UnnamedLemmas as lemmas

pub returns : goal.returns
returns c = lemmas.unnamed_flush
