use Rattle.std.proofs.Common.{◌∙◌}
use Rattle.h5w_bt_index.specs.Held.{view_of}
use Rattle.h5w_bt_index.proofs.Laws.{counts}
use Rattle.h5w_bt_index.proofs.index.TreeIndex.total.Goals as goal

pub returns-clause-counted : goal.returns-clause-counted
returns-clause-counted c i = c.total.ensures ∙ counts (view_of c.args.self.now) i
