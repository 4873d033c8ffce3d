-- What a tree's nodes hold, as their bytes say it.
use Rattle.std.specs.List.{All}
use Rattle.std.proofs.Common.{◌≡◌, ℕ, zero, suc, ◌+◌, List, length, refl, ap, ◌-◌, ◌≤◌, Ok, subst}
use Rattle.std.proofs.lemmas.List.Elements.{All-nil, All-cons}
use Rattle.std.proofs.lemmas.Bool.{leb-true}
use Rattle.h5w_model.specs.Trees.{records_in, children_in, pointer_size, ChildFields, child_tests, capacity_of, BthdFields, bthd_at, bthd_tests, bthd_fields}
use Rattle.h5w_model.specs.Numbers.{field}
use Rattle.h5w_model.proofs.CheckedLemmas.{AllPass, checked-passed}

pub length-records_in : (b : List ℕ) (n place : ℕ) → length (records_in b n place) ≡ n
length-records_in b zero place = refl
length-records_in b (suc n) place = ap suc (length-records_in b n (place + 24))

pub length-children_in : (b : List ℕ) (depth n place : ℕ) → length (children_in b depth n place) ≡ n
length-children_in b depth zero place = refl
length-children_in b depth (suc n) place = ap suc (length-children_in b depth n (place + pointer_size depth))

pub children_few : (b : List ℕ) (at depth n from : ℕ) → AllPass (child_tests b at depth n from) → All (λ (c : ChildFields). c.records ≤ capacity_of (depth - 1)) (children_in b depth n from)
children_few b p depth zero from pass = All-nil (λ (c : ChildFields). c.records ≤ capacity_of (depth - 1))
children_few b p depth (suc n) from pass =
    All-cons (λ (c : ChildFields). c.records ≤ capacity_of (depth - 1)) _ (children_in b depth n (from + pointer_size depth)) (leb-true (field b (from + 8) 1) (capacity_of (depth - 1)) pass.0)
    (children_few b p depth n (from + pointer_size depth) pass.1)

pub record IsRoot (t : BthdFields) : Type 0 where
  pub shallow : t.depth ≤ 3
  pub few : t.records ≤ capacity_of t.depth

pub root_is : (b : List ℕ) (at : ℕ) (t : BthdFields) → bthd_at b at ≡ Ok t → IsRoot t
root_is b p t h =
    let passed = checked-passed (bthd_tests b p) (bthd_fields b) t h in
    let pass = passed.0.1.1.1.1.1.1.1 in
    subst IsRoot passed.1 (record {
      shallow = leb-true (field b 12 2) 3 pass.0;
      few = leb-true (field b 24 2) (capacity_of (field b 12 2)) pass.1.1.1.0;
    })
