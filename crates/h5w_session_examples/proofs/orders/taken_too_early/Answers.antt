use Rattle.h5w_session_examples.proofs.WrongOrders as lemmas
use Rattle.h5w_session_examples.proofs.orders.taken_too_early.Goals as goal

pub returns : goal.returns
returns c = lemmas.taken_too_early
