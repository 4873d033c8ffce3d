-- What a plan's copies took meets nothing that a file uses, and no reader reaches it.
use Rattle.std.proofs.Common.{◌⊎◌, ◌<◌, List, [], ◌∷◌, ◌++◌, refl, inl, inr}
use Rattle.h5w_model.specs.Findings.{Used}
use Rattle.h5w_space.specs.Space.{Apart}
use Rattle.h5w_cache.proofs.MoveLemmas.{Apart-sides}
use Rattle.h5w_step_laws.specs.Ranges.{Among, AreApart, Disjoint}
use Rattle.h5w_step_laws.proofs.RangeLemmas.{among_split}
use Rattle.h5w_step_laws.specs.Moments.{all_used}
use Rattle.h5w_step_laws.proofs.PartLemmas.{disjoint_some}
use Rattle.h5w_step_laws.proofs.PlanLaws.{free_place}
use Rattle.h5w_array_laws.specs.ArrayPlans.{fresh, extent_of}
use Rattle.h5w_array_laws.specs.ArrayNaming.{IsKnown, FreshApart, FreshUnseen}
use Rattle.h5w_array_laws.proofs.WriteLemmas.{of_retired}

-- two lists of ranges that do not meet, put together
pub disjoint_joined : (us vs : List Used) → Disjoint us → Disjoint vs → ((u v : Used) → Among u us → Among v vs → AreApart u v) → Disjoint (us ++ vs)
disjoint_joined [] vs d e apart = e
disjoint_joined (x ∷ us) vs d e apart = (
  d.0,
  λ v a. go v (among_split v us vs a),
  disjoint_joined us vs d.2 e (λ u v b c. apart u v (inr b) c),
)
  where
    go : (v : Used) → Among v us ⊎ Among v vs → AreApart x v
    go v (inl a) = d.1 v a
    go v (inr a) = apart x v (inl refl) a

pub fresh_apart : FreshApart
fresh_apart v s ms cs fs w t us plan d live =
    disjoint_joined (fresh ms) us plan.disjoint d
    (λ u x a b. Apart-sides (extent_of u) (extent_of x) (disjoint_some (fresh ms) plan.disjoint u a) (disjoint_some us d x b) (plan.off_live u a (extent_of x) (live x b)))

pub fresh_unseen : FreshUnseen
fresh_unseen v s ms cs fs w t img name m held plan r used known u a =
    let some : 0 < u.len = disjoint_some (fresh ms) plan.disjoint u a in
    free_place img name m held u.place u.len r
    (λ x b. Apart-sides (extent_of u) (extent_of x) some (disjoint_some (all_used m) r.apart x b) (off x (used x b)))
    (λ x b. let k = known x b in Apart-sides (extent_of u) (extent_of x) some k.0 (off x k.1))
  where
    off : (x : Used) → IsKnown s x → Apart (extent_of u) (extent_of x)
    off x (inl live) = plan.off_live u a (extent_of x) live
    off x (inr gone) = of_retired (extent_of u) (extent_of x) s gone (plan.off_retired u a)
