use Rattle.std.proofs.Common.{◌≡◌, ◌+◌, max, subst}
use Rattle.h5w_cache.specs.Stores.{Store}
use Rattle.h5w_array_laws.specs.ArrayStores.{IsNumbered}
use Rattle.h5w_ea_index.specs.Reach.{max_index_set}
use Rattle.h5w_ea_index.specs.Steps.{IsSlotOrHeader, Touches}
use Rattle.h5w_ea_index.proofs.index.ArrayIndex.set.Goals as goal

pub returns-clause-way : goal.returns-clause-way
returns-clause-way c = subst (λ (v : Store). Touches (IsSlotOrHeader c.args.i) v c.set.new.cache) c.self.view_is c.set.ensures.way

pub returns-clause-numbered : goal.returns-clause-numbered
returns-clause-numbered c = subst (λ (v : Store). IsNumbered v → IsNumbered c.set.new.cache) c.self.view_is c.set.ensures.numbered

pub returns-clause-reach : goal.returns-clause-reach
returns-clause-reach c = subst (λ (v : Store). max_index_set c.set.new.cache ≡ max (max_index_set v) (c.args.i + 1)) c.self.view_is c.set.ensures.reach
