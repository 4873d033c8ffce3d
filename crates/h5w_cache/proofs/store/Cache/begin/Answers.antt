use Rattle.std.proofs.Common.{◌≤◌, subst}
use Rattle.h5w_cache.specs.Stores.{Store, times}
use Rattle.h5w_cache.proofs.PlannedLemmas.{listed_once}
use Rattle.h5w_cache.proofs.store.Cache.begin.Goals as goal

pub returns-clause-once : goal.returns-clause-once
returns-clause-once c n = subst (λ (v : Store). times n v.changed ≤ 1) c.self.view_is (listed_once _ _ _ _ _ n c.self.invariant)
