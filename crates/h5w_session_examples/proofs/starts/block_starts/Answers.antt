use Rattle.h5w_session_examples.proofs.starts.block_starts.Goals as goal
use Rattle.h5w_session_examples.proofs.AloneLemmas as lemmas

pub returns : goal.returns
returns c = lemmas.block_starts
