use Rattle.h5w_bt_index.specs.Held.{header_place, view_of}
use Rattle.h5w_bt_index.proofs.Replaced.{plans_nothing_so}
use Rattle.h5w_bt_index.proofs.index.TreeIndex.is_clean.Goals as goal

pub returns-clause-planned : goal.returns-clause-planned
returns-clause-planned c told s = plans_nothing_so (header_place c.args.self.now) (view_of c.args.self.now) c.is_clean.result c.is_clean.ensures told s
