-- The plan of an array none of whose blocks changed.
use Rattle.std.proofs.Common.{◌≡◌, ℕ, max, List, [], ◌++◌, length, true, ◌==◌, refl, ap, sym, subst, ◌∙◌, arith, rules, tests}
use Rattle.std.proofs.lemmas.List.{nil_from_length}
use Rattle.std.proofs.lemmas.List.Sorted.{IsPermutation-refl}
use Rattle.h5w_space.specs.Space.{Space}
use Rattle.h5w_cache.specs.Stores.{Store, times}
use Rattle.h5w_cache.specs.Plans.{IsOrder, IsPlan}
use Rattle.h5w_cache.specs.StoreLaws.{KeepsStore}
use Rattle.h5w_array_laws.specs.ArrayStores.{IsArray}
use Rattle.h5w_array_laws.specs.ArrayPlans.{IsArrayPlan}
use Rattle.h5w_array_laws.proofs.ArrayPlanLemmas.{plans_array}

module _ (v : Store) (s : Space) (is : IsArray v) (none : v.changed ≡ []) where
  order : IsOrder v.blocks v.changed []
  order = subst (λ (ns : List ℕ). IsOrder v.blocks ns []) (sym none) (record { all = IsPermutation-refl []; turns = λ i j d le below. absurd (omega arith) })

  roomy : s ≡ record s { spare = max s.spare 0 }
  roomy = let e : s.spare ≡ max s.spare 0 = omega arith in ap (λ (n : ℕ). record s { spare = n }) e

  never : (n : ℕ) → times n v.changed ≡ 0
  never n = ap (λ (ns : List ℕ). times n ns) none

  plans : IsPlan v s [] [] [] v s
  plans = record {
    each_place = is.each_place ∙ sym is.count;
    order = order;
    once = λ n. omega arith;
    roomy = s;
    taken = record { taken = s; moves = refl; roomy = roomy };
    retired = refl;
    store = ap (λ (ns : List ℕ). let w : Store = record { blocks = v.blocks; places = v.places; changed = ns } in w) none;
    lengths = λ n. refl;
    writes = record { split = 0; splits = record { inside = omega arith; before = λ k m low. absurd (omega arith); from = λ below. absurd (omega arith) }; before = refl; from = refl };
  }

  keeps : KeepsStore v s [] ([] ++ []) v s
  keeps = record {
    others = λ n clean. (refl, refl);
    each = λ n some. let no : times n v.changed ≡ 0 = never n in absurd (omega arith);
    off = λ r foreign. tt;
    standing = λ stands. stands;
    retired = λ stands k m low. absurd (omega arith);
    there = λ stands img there. there;
  }

  pub plans_nothing : IsArrayPlan v s [] [] [] v s
  plans_nothing = plans_array v s [] [] [] v s is plans keeps

pub none_listed : (ns : List ℕ) → (length ns == 0) ≡ true → ns ≡ []
none_listed ns e = nil_from_length ns (search (rules, tests))
