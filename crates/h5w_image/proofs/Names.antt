-- Finite maps from names.
use Rattle.std.proofs.Common.{ℕ, ◌≤◌, ◌≡◌, arith, Bool, true, false, List, Some, cond, sym, refl, ap, ◌∙◌, subst}
use Rattle.std.specs.Prelude.{IsSome}
use Rattle.std.specs.Option.{unwrap_or}
use Rattle.std.specs.declared.cmp.Ordering.{Ordering}
use Rattle.std.specs.declared.cmp.Ordering.TheVariants.{Less, Equal, Greater}
use Rattle.std.specs.Ordering.{nat_cmp, is_eq, eq_by_cmp}
use Rattle.std.specs.Cmp.Lexicographic.{slice_cmp, nat_list_cmp_total}
use Rattle.std.specs.Cmp.{eq_by_cmp_equiv}
use Rattle.std.specs.FinMap as finite
use Rattle.h5w_image.specs.NamedFiles.{Named}

pub equal_of : (o : Ordering) → is_eq o ≡ true → o ≡ Equal
equal_of Less e = absurd (cc)
equal_of Equal e = refl
equal_of Greater e = absurd (cc)

-- what stands under the names after an insert, at any name: a greater number than before
pub insert-grows : (m : Named ℕ) (name : List ℕ) (n : ℕ) → unwrap_or (finite.get m name) 0 ≤ n → (q : List ℕ) → unwrap_or (finite.get m q) 0 ≤ unwrap_or (finite.get (finite.insert m name n) q) 0
insert-grows m name n h q =
    subst (λ o. unwrap_or (finite.get m q) 0 ≤ unwrap_or o 0) (sym (finite.get-insert nat_list_cmp_total m name n q)) (cases (eq_by_cmp (slice_cmp nat_cmp) q name) refl)
  where
    cases : (b : Bool) → eq_by_cmp (slice_cmp nat_cmp) q name ≡ b → unwrap_or (finite.get m q) 0 ≤ unwrap_or (cond b (Some n) (finite.get m q)) 0
    cases true e = subst (λ o. unwrap_or o 0 ≤ n) (finite.get_tied nat_list_cmp_total m q name (equal_of (slice_cmp nat_cmp q name) e)) h
    cases false e = omega arith

-- what was inserted under a name stands there
pub get-insert_same : {X : Type 0} (m : Named X) (name : List ℕ) (x : X) → finite.get (finite.insert m name x) name ≡ Some x
get-insert_same m name x =
    finite.get-insert nat_list_cmp_total m name x name
    ∙ ap (λ b. cond b (Some x) (finite.get m name)) ((eq_by_cmp_equiv nat_list_cmp_total).refl name)

-- what stands under a name still does, whatever is inserted
pub some-insert : {X : Type 0} (m : Named X) (name q : List ℕ) (x : X) → IsSome (finite.get m q) → IsSome (finite.get (finite.insert m name x) q)
some-insert {X} m name q x h = subst (λ o. IsSome o) (sym (finite.get-insert nat_list_cmp_total m name x q)) (cases (eq_by_cmp (slice_cmp nat_cmp) q name))
  where
    cases : (b : Bool) → IsSome (cond b (Some x) (finite.get m q))
    cases true = refl
    cases false = h
