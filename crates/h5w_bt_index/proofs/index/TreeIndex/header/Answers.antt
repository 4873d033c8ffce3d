use Rattle.h5w_bt_index.specs.Held.{view_of}
use Rattle.h5w_bt_index.proofs.Headers.{header_fits}
use Rattle.h5w_bt_index.proofs.index.TreeIndex.header.Goals as goal

pub returns-clause-form : goal.returns-clause-form
returns-clause-form c = header_fits (view_of c.args.self.now) _ _ _ _ c.requires c.depth.ensures c.len.ensures
