-- The order in which a check visits the blocks of an array: each is a part that does not stay in place, and none stands twice.
use Rattle.std.proofs.Common.{◌≡◌, ◌≢◌, ℕ, zero, suc, ◌+◌, ◌-◌, ◌%◌, ◌<◌, ◌≤◌, Bool, true, false, ◌&&◌, List, [], ◌∷◌, ◌++◌, refl, ap, arith}
use Rattle.std.specs.Prelude.{◌==◌, nat_lt, map, flat_map, if◌then◌else◌}
use Rattle.std.specs.List.{AllByRecursion, range_with_len}
use Rattle.std.proofs.lemmas.Bool.{and_parts, ltb-true}
use Rattle.h5w_model.specs.Arrays.{super_block_of}
use Rattle.h5w_array_laws.specs.Parts.{Part, data_of, secondary_of, IsPart, number_of, children, first_parts, second_parts, stays_in_place, visit_order}
use Rattle.h5w_array_laws.proofs.ReadLemmas.{all_data}
use Rattle.h5w_array_laws.proofs.SpelledLemmas.{all_joined}
use Rattle.h5w_array_laws.proofs.PlannedLemmas.{for_all}

-- ---- Parts

pub all_flat : {X Y : Type 0} (Q : Y → Type 0) (g : X → List Y) (xs : List X) → AllByRecursion (λ x. AllByRecursion Q (g x)) xs → AllByRecursion Q (flat_map g xs)
all_flat Q g [] h = tt
all_flat Q g (x ∷ xs) h = all_joined Q (g x) (flat_map g xs) h.0 (all_flat Q g xs h.1)

-- a block that is copied
pub record IsCopied (k : Part) : Type 0 where
  pub part : IsPart k
  pub moves : stays_in_place k ≡ false

abbrev pub GroupCopied : Part → Type 0
GroupCopied k = AllByRecursion IsCopied (k ∷ children k)

pub data_copied : (s b : ℕ) → s ≤ 12 → b < (super_block_of s).blocks → IsCopied (data_of s b)
data_copied s b low inside = record { part = (low, inside); moves = refl }

pub second_copied : (from n : ℕ) → 4 ≤ from → from + n ≡ 13 → AllByRecursion GroupCopied (map secondary_of (range_with_len from n))
second_copied from zero far e = tt
second_copied from (suc n) far e = (
  (record { part = (far, omega arith); moves = refl }, all_data IsCopied from (λ b inside. data_copied from b (omega arith) inside)),
  second_copied (from + 1) n (omega arith) (omega arith),
)

pub visited_copied : AllByRecursion IsCopied visit_order
unfolding visit_order
visited_copied =
    all_flat IsCopied (λ k. k ∷ children k) (first_parts ++ second_parts)
    (all_joined GroupCopied first_parts second_parts (
      (data_copied 0 0 (omega arith) (omega arith), tt),
      (
        (data_copied 1 0 (omega arith) (omega arith), tt),
        (
          (data_copied 2 0 (omega arith) (omega arith), tt),
          (
            (data_copied 2 1 (omega arith) (omega arith), tt),
            ((data_copied 3 0 (omega arith) (omega arith), tt), ((data_copied 3 1 (omega arith) (omega arith), tt), tt)),
          ),
        ),
      ),
    ) (second_copied 4 9 (omega arith) (omega arith)))

-- ---- None twice

-- no two have one number
abbrev pub AreDistinct : List Part → Type 0
AreDistinct [] = Unit {0}
AreDistinct (k ∷ ks) = AllByRecursion (λ m. number_of m ≢ number_of k) ks × AreDistinct ks

-- numbers that rise
abbrev pub do_rise : List ℕ → Bool
do_rise [] = true
do_rise (x ∷ []) = true
do_rise (x ∷ y ∷ xs) = nat_lt x y && do_rise (y ∷ xs)

pub first_lowest : (x : ℕ) (xs : List ℕ) → do_rise (x ∷ xs) ≡ true → AllByRecursion (λ y. x < y) xs
first_lowest x [] h = tt
first_lowest x (y ∷ xs) h =
    let parts = and_parts (nat_lt x y) (do_rise (y ∷ xs)) h in
    let low = ltb-true x y parts.0 in
    (low, for_all (λ z. y < z) (λ z. x < z) xs (λ z l. omega (arith, low, l)) (first_lowest y xs parts.1))

pub later_rise : (x : ℕ) (xs : List ℕ) → do_rise (x ∷ xs) ≡ true → do_rise xs ≡ true
later_rise x [] h = refl
later_rise x (y ∷ xs) h = (and_parts (nat_lt x y) (do_rise (y ∷ xs)) h).1

-- the place of a number in the order: a secondary block stands before the data blocks that it names
abbrev pub rank : ℕ → ℕ
rank n = if n % 65 == 64 then n - 64 else n + 1

pub of_map : {X : Type 0} (f : X → ℕ) (Q : ℕ → Type 0) (xs : List X) → AllByRecursion Q (map f xs) → AllByRecursion (λ x. Q (f x)) xs
of_map f Q [] h = tt
of_map f Q (x ∷ xs) h = (h.0, of_map f Q xs h.1)

pub rising_distinct : (ks : List Part) → do_rise (map (λ k. rank (number_of k)) ks) ≡ true → AreDistinct ks
rising_distinct [] h = tt
rising_distinct (k ∷ ks) h = (
  for_all (λ m. rank (number_of k) < rank (number_of m)) (λ m. number_of m ≢ number_of k) ks (λ m low e. let f : rank (number_of m) ≡ rank (number_of k) = ap rank e in omega (arith, low, f))
      (of_map (λ m. rank (number_of m)) (λ y. rank (number_of k) < y) ks (first_lowest (rank (number_of k)) (map (λ m. rank (number_of m)) ks) h)),
  rising_distinct ks (later_rise (rank (number_of k)) (map (λ m. rank (number_of m)) ks) h),
)

pub visited_rise : do_rise (map (λ k. rank (number_of k)) visit_order) ≡ true
unfolding visit_order
visited_rise = refl

pub visited_distinct : AreDistinct visit_order
visited_distinct = rising_distinct visit_order visited_rise
