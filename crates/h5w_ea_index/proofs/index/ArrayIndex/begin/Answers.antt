use Rattle.std.proofs.Common.{◌≤◌, subst}
use Rattle.h5w_cache.specs.Stores.{Store, times}
use Rattle.h5w_ea_index.proofs.index.ArrayIndex.begin.Goals as goal

pub returns-clause-once : goal.returns-clause-once
returns-clause-once c n = subst (λ (v : Store). times n v.changed ≤ 1) c.self.view_is (c.begin.ensures.once n)
