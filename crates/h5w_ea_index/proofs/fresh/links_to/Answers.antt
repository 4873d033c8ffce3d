use Rattle.h5w_ea_index.proofs.FreshLemmas.{links_next}
use Rattle.h5w_ea_index.proofs.fresh.links_to.Goals as goal

pub loop-block-preserved : goal.loop-block-preserved
loop-block-preserved c = links_next c.args.sblock c.loop-block.block c.loop-block.links.items _ c.loop-block.invariant c.in_ok-push.ensures.items
