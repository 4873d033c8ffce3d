use Rattle.std.proofs.Common.{◌≡◌, subst}
use Rattle.h5w_cache.specs.Stores.{Store}
use Rattle.h5w_array_laws.specs.Parts.{holder}
use Rattle.h5w_array_laws.specs.ArrayStores.{IsNumbered}
use Rattle.h5w_ea_index.specs.Reach.{max_index_set}
use Rattle.h5w_ea_index.specs.Steps.{OnWay, Touches}
use Rattle.h5w_ea_index.proofs.index.ArrayIndex.hold.Goals as goal

pub returns-clause-way : goal.returns-clause-way
returns-clause-way c = subst (λ (v : Store). Touches (OnWay (holder c.args.i)) v c.hold.new.cache) c.self.view_is c.hold.ensures.way

pub returns-clause-numbered : goal.returns-clause-numbered
returns-clause-numbered c = subst (λ (v : Store). IsNumbered v → IsNumbered c.hold.new.cache) c.self.view_is c.hold.ensures.numbered

pub returns-clause-reach : goal.returns-clause-reach
returns-clause-reach c = subst (λ (v : Store). max_index_set c.hold.new.cache ≡ max_index_set v) c.self.view_is c.hold.ensures.reach
