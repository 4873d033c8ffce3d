use Rattle.h5w_bt_open.proofs.VisitLemmas.{opened_is_index}
use Rattle.h5w_bt_open.proofs.laws.opened_is_index.Goals as goal

pub returns : goal.returns
returns c = opened_is_index
