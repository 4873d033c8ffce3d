use Rattle.std.proofs.Common.{subst}
use Rattle.h5w_cache.specs.Stores.{Store}
use Rattle.h5w_array_laws.specs.ArrayStores.{IsNumbered}
use Rattle.h5w_ea_index.specs.Reach.{KeepsReach}
use Rattle.h5w_ea_index.specs.Steps.{IsSlotOrHeader, Touches}
use Rattle.h5w_ea_index.proofs.index.ArrayIndex.unset.Goals as goal

pub returns-clause-way : goal.returns-clause-way
returns-clause-way c = subst (λ (v : Store). Touches (IsSlotOrHeader c.args.i) v c.unset.new.cache) c.self.view_is c.unset.ensures.way

pub returns-clause-numbered : goal.returns-clause-numbered
returns-clause-numbered c = subst (λ (v : Store). IsNumbered v → IsNumbered c.unset.new.cache) c.self.view_is c.unset.ensures.numbered

pub returns-clause-reach : goal.returns-clause-reach
returns-clause-reach c = subst (λ (v : Store). KeepsReach v c.unset.new.cache) c.self.view_is c.unset.ensures.reach
