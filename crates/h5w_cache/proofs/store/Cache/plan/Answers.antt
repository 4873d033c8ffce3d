use Rattle.std.proofs.Common.{subst}
use Rattle.h5w_space.specs.Space.{Space}
use Rattle.h5w_cache.specs.Starts.{IsBegun}
use Rattle.h5w_cache.proofs.store.Cache.plan.Goals as goal

pub returns-clause-planned : goal.returns-clause-planned
returns-clause-planned c =
    c.finish.ensures.planned c.args.places.now c.begin.new.places
    (subst (λ (s : Space). IsBegun c.args.self.now.blocks c.args.self.now.places c.args.self.now.changed s c.in_ok-begun.begun c.begin.new.places) c.in_ok-next.ensures c.in_ok-begun.ensures.begun)

pub returns-clause-keeps : goal.returns-clause-keeps
returns-clause-keeps c =
    c.finish.ensures.keeps c.args.places.now c.begin.new.places
    (subst (λ (s : Space). IsBegun c.args.self.now.blocks c.args.self.now.places c.args.self.now.changed s c.in_ok-begun.begun c.begin.new.places) c.in_ok-next.ensures c.in_ok-begun.ensures.begun)
