use Rattle.h5w_session_examples.proofs.OnesSix as lemmas
use Rattle.h5w_session_examples.proofs.runs.copied_block_goes.Goals as goal

pub returns : goal.returns
returns c = lemmas.goes_six_6
