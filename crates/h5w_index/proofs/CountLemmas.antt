-- How many numbers are listed, where none is listed twice.
use Rattle.std.proofs.Common.{◌≡◌, ◌⊎◌, ℕ, zero, suc, ◌+◌, ◌<◌, ◌≤◌, List, [], ◌∷◌, length, take, refl, sym, ap, ◌∙◌, inl, inr, arith}
use Rattle.std.proofs.lemmas.Bool.{cases_eq}
use Rattle.h5w_cache.specs.Stores.{times}
use Rattle.h5w_cache.proofs.PlannedLemmas.{times-more, times-other, times-same}

-- the number is one of these
abbrev pub Listed : ℕ → List ℕ → Type 0
Listed n [] = ⊥
Listed n (k ∷ ks) = (k ≡ n) ⊎ Listed n ks

pub listed_times : (n : ℕ) (ks : List ℕ) → Listed n ks → 0 < times n ks
listed_times n [] l = absurd l
listed_times n (k ∷ ks) (inl e) = omega (arith, times-same n k ks e)
listed_times n (k ∷ ks) (inr l) = omega (arith, listed_times n ks l, times-more n k ks)

pub times_listed : (n : ℕ) (ks : List ℕ) → 0 < times n ks → Listed n ks
times_listed n [] some = absurd (omega arith)
times_listed n (k ∷ ks) some =
    elim (cases_eq k n) [
      | inl e ↦ inl e
      | inr ne ↦ inr (times_listed n ks (omega (arith, some, times-other n k ks ne)))
    ]

-- what is listed among the first ones is listed
pub taken_listed : (n k : ℕ) (ks : List ℕ) → Listed n (take k ks) → Listed n ks
taken_listed n zero ks l = absurd l
taken_listed n (suc k) [] l = absurd l
taken_listed n (suc k) (x ∷ xs) (inl e) = inl e
taken_listed n (suc k) (x ∷ xs) (inr l) = inr (taken_listed n k xs l)

-- and no more often
pub taken_times : (n k : ℕ) (ks : List ℕ) → times n (take k ks) ≤ times n ks
taken_times n zero ks = omega arith
taken_times n (suc k) [] = omega arith
taken_times n (suc k) (x ∷ xs) =
    let rest = taken_times n k xs in
    elim (cases_eq x n) [
      | inl e ↦ omega (arith, rest, times-same n x xs e, times-same n x (take k xs) e)
      | inr ne ↦ omega (arith, rest, times-other n x xs ne, times-other n x (take k xs) ne)
    ]

-- a list without a number that is listed is shorter, and has all others
record Without (n : ℕ) (ks : List ℕ) : Type 0 where
  rest : List ℕ
  shorter : suc (length rest) ≡ length ks
  kept : (m : ℕ) → (n ≡ m → ⊥) → Listed m ks → Listed m rest

without : (n : ℕ) (ks : List ℕ) → Listed n ks → Without n ks
without n [] l = absurd l
without n (k ∷ ks) (inl e) = record {
  rest = ks;
  shorter = refl;
  kept = λ m ne l. elim l [
    | inl same ↦ absurd (ne (sym e ∙ same))
    | inr other ↦ other
  ];
}
without n (k ∷ ks) (inr l) =
    let r = without n ks l in
    record {
      rest = k ∷ r.rest;
      shorter = ap suc r.shorter;
      kept = λ m ne l. elim l [
        | inl same ↦ inl same
        | inr other ↦ inr (r.kept m ne other)
      ];
    }

-- numbers that are all among others, none of them twice, are no more than those
pub no_more : (ns ks : List ℕ) → ((n : ℕ) → times n ns ≤ 1) → ((n : ℕ) → Listed n ns → Listed n ks) → length ns ≤ length ks
no_more [] ks once each = omega arith
no_more (n ∷ ns) ks once each =
    let r = without n ks (each n (inl refl)) in
    let alone : (m : ℕ) → Listed m ns → (n ≡ m → ⊥) = λ m l e. absurd (omega (arith, once m, times-same m n ns e, listed_times m ns l)) in
    let rest = no_more ns r.rest (λ m. omega (arith, once m, times-more m n ns)) (λ m l. r.kept m (alone m l) (each m (inr l))) in
    omega (arith, rest, r.shorter)

-- the numbers from one on
abbrev pub run_from : ℕ → ℕ → List ℕ
run_from from zero = []
run_from from (suc n) = from ∷ run_from (from + 1) n

length_run : (from n : ℕ) → length (run_from from n) ≡ n
length_run from zero = refl
length_run from (suc n) = omega (arith, length_run (from + 1) n)

run_listed : (from n k : ℕ) → from ≤ k → k < from + n → Listed k (run_from from n)
run_listed from zero k low high = absurd (omega (arith, low, high))
run_listed from (suc n) k low high =
    elim (cases_eq from k) [
      | inl same ↦ inl same
      | inr other ↦ inr (run_listed (from + 1) n k (omega (arith, low, other)) (omega (arith, high)))
    ]

-- so there are no more numbers below another, none of them twice, than that
pub few_below : (ns : List ℕ) (m : ℕ) → ((n : ℕ) → times n ns ≤ 1) → ((n : ℕ) → 0 < times n ns → n < m) → length ns ≤ m
few_below ns m once each =
    let most = no_more ns (run_from 0 m) once (λ n l. run_listed 0 m n (omega arith) (omega (arith, each n (listed_times n ns l)))) in
    omega (arith, most, length_run 0 m)
