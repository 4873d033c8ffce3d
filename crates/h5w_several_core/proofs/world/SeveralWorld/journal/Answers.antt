use Rattle.h5w_several_core.proofs.MachineLemmas.{folded}
use Rattle.h5w_several_core.proofs.world.SeveralWorld.journal.Goals as goal

pub returns-clause-folds : goal.returns-clause-folds
returns-clause-folds c =
    let i = c.self.inside in
    folded i.session i.image i.attempts i.places.items c.args.self.now c.self.view_is c.self.invariant.0
