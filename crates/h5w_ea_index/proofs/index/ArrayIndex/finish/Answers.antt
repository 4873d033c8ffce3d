use Rattle.std.proofs.Common.{subst}
use Rattle.h5w_space.specs.Space.{Space}
use Rattle.h5w_cache.specs.Starts.{IsBegun}
use Rattle.h5w_cache.specs.Stores.{Store}
use Rattle.h5w_array_laws.specs.ArrayPlans.{IsArrayPlan}
use Rattle.h5w_array_laws.specs.ArrayStores.{IsNumbered}
use Rattle.h5w_ea_index.proofs.index.ArrayIndex.finish.Goals as goal

pub returns-clause-planned : goal.returns-clause-planned
returns-clause-planned c =
    subst
    (λ (v : Store). (s t : Space) → IsBegun v.blocks v.places v.changed s c.args.begun t
    → IsArrayPlan v s c.finish.result.moves.items c.finish.result.copies.items c.finish.result.in_place.items c.finish.new.cache t)
    c.self.view_is c.finish.ensures.planned

pub returns-clause-numbered : goal.returns-clause-numbered
returns-clause-numbered c = subst (λ (v : Store). IsNumbered v → IsNumbered c.finish.new.cache) c.self.view_is c.finish.ensures.numbered
