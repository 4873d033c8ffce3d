use Rattle.h5w_several_core.proofs.RuleLemmas.{count_told}
use Rattle.h5w_several_core.proofs.world.SeveralWorld.count.Goals as goal

pub returns-clause-count : goal.returns-clause-count
returns-clause-count c =
    let i = c.self.inside in
    count_told i.session i.image i.attempts i.places.items c.args.self.now 0 c.self.view_is c.count.result c.count.ensures.count
