use Rattle.std.proofs.Common.{ap}
use Rattle.h5w_model.specs.Trees.{ChildFields}
use Rattle.h5w_bt_nodes.specs.Blocks.{news}
use Rattle.h5w_bt_index.specs.Index.{index_of}
use Rattle.h5w_bt_index.proofs.Headers.{planned_fits}
use Rattle.h5w_bt_index.proofs.plan.writes_at.Goals as goal

pub put_header-requires : goal.put_header-requires
put_header-requires c = planned_fits (index_of c.args.root.now) (news c.deref.result.now) _ _ _ _ _ c.requires.shape c.depth.ensures (ap (λ (p : ChildFields). p.records) c.in_ok-pointer.ensures.pointer) c.header.ensures
