use Rattle.h5w_session_examples.proofs.TwosFour as lemmas
use Rattle.h5w_session_examples.proofs.runs.two_flushes_goes.Goals as goal

pub returns : goal.returns
returns c = lemmas.goes_four_2
