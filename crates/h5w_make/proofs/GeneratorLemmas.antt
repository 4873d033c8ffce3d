-- The numbers of a generator, and its batches.
use Rattle.std.proofs.Common.{◌≡◌, ℕ, zero, suc, ◌+◌, ◌*◌, ◌/◌, ◌%◌, ◌^◌, ◌<◌, ◌≤◌, List, [], ◌∷◌, ◌++◌, length, map, take, drop, ℤ, pos, Option, Some, None, sym, refl, ap, ◌∙◌, arith, append_assoc, ◌-◌}
use Rattle.std.specs.Prelude.{sum, ◌==◌, nat_lt}
use Rattle.std.proofs.lemmas.List.{drop-map, length-map, take-map, take_all}
use Rattle.std.proofs.lemmas.List.Sums.{sum_by-append, sum_by-cons, sum_by-take-le}
use Rattle.std.proofs.Math.Seq.{take-add}
use Rattle.std.proofs.Math.ListN.{get_or, get_or-map}
use Rattle.std.proofs.lemmas.Bool.{cond_both, cond-true, eqb-true, lt-ltb}
use Rattle.h5w_model.specs.Integers.{cell_bytes_of}
use Rattle.h5w_model.specs.Numbers.{le}
use Rattle.h5w_model.specs.Lawful.{first_outside}
use Rattle.h5w_make.specs.Commands.{batches, full_batches, new_file, values_of}
use Rattle.h5w_make.specs.Generators.{generated, next_state, number_of, numbers, state_after}

pub length_numbers : (x k : ℕ) → length (numbers x k) ≡ k
length_numbers x zero = refl
length_numbers x (suc k) = ap suc (length_numbers (next_state x) k)

pub length_generated : (x k : ℕ) → length (generated x k) ≡ k
length_generated x k = length-map (numbers x k) pos ∙ length_numbers x k

-- ---- More steps

pub state_more : (x a b : ℕ) → state_after x (a + b) ≡ state_after (state_after x a) b
state_more x zero b = let e : 0 + b ≡ b = omega arith in ap (state_after x) e
state_more x (suc a) b = let e : suc a + b ≡ suc (a + b) = omega arith in ap (state_after x) e ∙ state_more (next_state x) a b

pub generated_more : (x a b : ℕ) → generated x (a + b) ≡ generated x a ++ generated (state_after x a) b
generated_more x zero b = let e : 0 + b ≡ b = omega arith in ap (generated x) e
generated_more x (suc a) b =
    let e : suc a + b ≡ suc (a + b) = omega arith in
    ap (generated x) e ∙ ap (λ (vs : List ℤ). pos (number_of (next_state x)) ∷ vs) (generated_more (next_state x) a b)

-- ---- Within the type

pub next_bound : (x : ℕ) → next_state x < 2 ^ 64
unfolding next_state
next_bound x = omega arith

pub number_bound : (y : ℕ) → y < 2 ^ 64 → number_of y < 2 ^ 31
unfolding number_of
number_bound y below = omega arith

-- a number below 2^31 is a value of the type
pub has_number : (n : ℕ) → n < 2 ^ 31 → (bytes : List ℕ) × (cell_bytes_of (pos n) new_file.int_type ≡ Some bytes)
unfolding cell_bytes_of
has_number n below = (le 4 n, cond-true (nat_lt n 2147483648) (Some (le 4 n)) None (lt-ltb n 2147483648 below))

pub none_outside : (x k i : ℕ) → first_outside new_file.int_type i (generated x k) ≡ None
none_outside x zero i = refl
none_outside x (suc k) i =
    let has = has_number (number_of (next_state x)) (number_bound (next_state x) (next_bound x)) in
    ap (λ (o : Option (List ℕ)). elim o as (λ _. Option (ℕ × ℤ)) [ Some b ↦ first_outside new_file.int_type (i + 1) (generated (next_state x) k) | None ↦ Some (i, pos (number_of (next_state x))) ]) has.1
    ∙ none_outside (next_state x) k (i + 1)

-- ---- Batches

pub full_values : (x k : ℕ) → values_of (full_batches x k) ≡ generated x (k * 1000)
full_values x zero = refl
full_values x (suc k) =
    let n : k * 1000 + 1000 ≡ suc k * 1000 = omega arith in
    ap (λ (vs : List ℤ). vs ++ generated (state_after x (k * 1000)) 1000) (full_values x k)
    ∙ sym (generated_more x (k * 1000) 1000) ∙ ap (generated x) n

pub full_count : (x k : ℕ) → length (full_batches x k) ≡ k
full_count x zero = refl
full_count x (suc k) = ap suc (full_count x k)

pub all_values : (x n : ℕ) → values_of (batches x n) ≡ generated x n
all_values x n =
    let k : ℕ = n / 1000 in
    let rest : List ℤ = generated (state_after x (k * 1000)) (n % 1000) in
    cond_both (n % 1000 == 0) (full_batches x k) (rest ∷ full_batches x k) (λ (bs : List (List ℤ)). values_of bs ≡ generated x n)
    (λ none. let whole : k * 1000 ≡ n = omega (arith, eqb-true (n % 1000) 0 none) in full_values x k ∙ ap (generated x) whole)
    (λ some.
    let whole : k * 1000 + n % 1000 ≡ n = omega arith in
    ap (λ (vs : List ℤ). vs ++ rest) (full_values x k) ∙ sym (generated_more x (k * 1000) (n % 1000)) ∙ ap (generated x) whole)

-- ---- Sums

pub sum_bound : (x k : ℕ) → sum (numbers x k) ≤ k * 2 ^ 31
sum_bound x zero = omega arith
sum_bound x (suc k) =
    let first = number_bound (next_state x) (next_bound x) in
    omega (arith, first, sum_bound (next_state x) k, sum_by-cons (λ (n : ℕ). n) (number_of (next_state x)) (numbers (next_state x) k))

-- a number of a list, as a value
pub value_at : (ns : List ℕ) (vs : List ℤ) (i : ℕ) → vs ≡ map pos ns → get_or vs i (pos 0) ≡ pos (get_or ns i 0)
value_at ns vs i is = ap (λ (xs : List ℤ). get_or xs i (pos 0)) is ∙ get_or-map pos ns i 0

pub inside : (ns : List ℕ) (vs : List ℤ) (i : ℕ) → vs ≡ map pos ns → i < length vs → i < length ns
inside ns vs i is within = omega (arith, within, ap length is, length-map ns pos)

-- the numbers of a part, and their sum behind that of those before

pub part_numbers : (ns : List ℕ) (values : List ℤ) (from count : ℕ) → values ≡ take count (drop from (map pos ns)) → values ≡ map pos (take count (drop from ns))
part_numbers ns values from count is = is ∙ ap (take count) (drop-map pos from ns) ∙ take-map pos count (drop from ns)

pub sum_more : (ns : List ℕ) (from count : ℕ) → sum (take (from + count) ns) ≡ sum (take from ns) + sum (take count (drop from ns))
sum_more ns from count = ap sum (take-add from count ns) ∙ sum_by-append (λ (n : ℕ). n) (take from ns) (take count (drop from ns))

pub sum_within : (ns : List ℕ) (from count : ℕ) → sum (take from ns) + sum (take count (drop from ns)) ≤ sum ns
sum_within ns from count = omega (arith, sum_more ns from count, sum_by-take-le (λ (n : ℕ). n) ns (from + count))

pub sum_all : (ns : List ℕ) (k : ℕ) → length ns ≤ k → sum (take k ns) ≡ sum ns
sum_all ns k all = ap sum (take_all k ns all)

-- ---- Loops

-- the list with one more value
pub filled : (before : List ℤ) (x more : ℕ) (all : List ℤ) → 0 < more → before ++ generated x more ≡ all → (before ++ pos (number_of (next_state x)) ∷ []) ++ generated (next_state x) (more - 1) ≡ all
filled before x zero all some is = absurd (omega arith)
filled before x (suc k) all some is =
    let e : suc k - 1 ≡ k = omega arith in
    ap (λ (n : ℕ). (before ++ pos (number_of (next_state x)) ∷ []) ++ generated (next_state x) n) e
    ∙ append_assoc before (pos (number_of (next_state x)) ∷ []) (generated (next_state x) k) ∙ is

pub stepped : (x more : ℕ) → 0 < more → state_after (next_state x) (more - 1) ≡ state_after x more
stepped x zero some = absurd (omega arith)
stepped x (suc k) some = let e : suc k - 1 ≡ k = omega arith in ap (state_after (next_state x)) e
