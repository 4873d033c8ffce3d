use Rattle.std.proofs.Common.{◌∙◌, [], subst, sym}
use Rattle.h5w_cache.specs.Stores.{Store}
use Rattle.h5w_array_laws.specs.ArrayPlans.{IsArrayPlan}
use Rattle.h5w_ea_index.proofs.CleanLemmas.{none_listed, plans_nothing}
use Rattle.h5w_ea_index.proofs.index.ArrayIndex.is_clean.Goals as goal

pub returns-clause-planned : goal.returns-clause-planned
returns-clause-planned c told s =
    let v : Store = c.self.inside.cache in
    let none = none_listed v.changed (sym c.is_clean.ensures ∙ told) in
    subst (λ (u : Store). IsArrayPlan u s [] [] [] u s) c.self.view_is (plans_nothing v s c.self.invariant none)
