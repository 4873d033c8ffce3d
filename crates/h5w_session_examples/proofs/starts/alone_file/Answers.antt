use Rattle.h5w_session_examples.proofs.starts.alone_file.Goals as goal
use Rattle.h5w_session_examples.proofs.AloneLemmas as lemmas

pub returns : goal.returns
returns c = lemmas.alone_is_file
