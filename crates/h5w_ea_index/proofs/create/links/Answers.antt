use Rattle.h5w_ea_index.proofs.CreateLemmas.{links_more}
use Rattle.h5w_ea_index.proofs.create.links.Goals as goal

pub loop-i-preserved : goal.loop-i-preserved
loop-i-preserved c = links_more c.args.from c.loop-i.i 0 c.args.numbers.now c.loop-i.links.items c.push.new.self.items c.loop-i-test.true c.loop-i.invariant c.in_ok-push.ensures.items
