use Rattle.std.proofs.Common.{◌≡◌, List, IfOk, ap, sym, subst, ◌∙◌}
use Rattle.h5w_space.specs.declared.Extent.{Extent}
use Rattle.h5w_bt_index.specs.Held as trees
use Rattle.h5w_bt_index.proofs.Laws.{index_shaped}
use Rattle.h5w_dataset.specs.Described.{described_of}
use Rattle.h5w_index.specs.Held.{view_of}
use Rattle.h5w_index.specs.declared.index.Index.{Index as HeldIndex}
use Rattle.h5w_writer_open.specs.OpenSteps.{IsNamedIndex}
use Rattle.h5w_writer_open.proofs.ranges.index_blocks.Goals as goal

pub tree_blocks-requires-clause-shaped : goal.tree_blocks-requires-clause-shaped
tree_blocks-requires-clause-shaped c = index_shaped (trees.view_of c.in-Tree.tree) (subst (λ (x : HeldIndex). IsNamedIndex (described_of c.args.d.now) (view_of x)) c.in-Tree.is c.requires.named).kept
