use Rattle.h5w_bt_open.proofs.TreeLemmas.{opened_finds}
use Rattle.h5w_bt_open.proofs.laws.opened_finds.Goals as goal

pub returns : goal.returns
returns c = opened_finds
