use Rattle.h5w_session_examples.proofs.OnesSeven as lemmas
use Rattle.h5w_session_examples.proofs.runs.taken_again_goes.Goals as goal

pub returns : goal.returns
returns c = lemmas.goes_seven_6
