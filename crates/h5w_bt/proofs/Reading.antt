-- Records and child pointers that are read one after another.
use Rattle.std.proofs.Common.{◌≡◌, ℕ, zero, suc, ◌+◌, ◌-◌, ◌*◌, ◌<◌, ◌≤◌, List, [], ◌∷◌, ◌++◌, sym, ap, ◌∙◌, arith, Ok, Err, Result, cond, nat_le}
use Rattle.std.proofs.lemmas.Bool.{le-leb, lt-leb}
use Rattle.h5w_model.specs.Numbers.{field}
use Rattle.h5w_model.specs.Checked.{checked}
use Rattle.h5w_model.specs.Trees.{records_in, children_in, child_tests, pointer_size, capacity_of}
use Rattle.h5w_model.specs.declared.refusal.BlockFault.{BlockFault}
use Rattle.h5w_model.specs.declared.refusal.BlockFault.TheVariants.{Field}
use Rattle.h5w_bt.specs.Parts.{record_in, child_in}

-- one more record behind n of them
pub records_in-more : (b : List ℕ) (n place : ℕ) → records_in b (n + 1) place ≡ records_in b n place ++ record_in b (place + 24 * n) ∷ []
records_in-more b zero place = let e : place ≡ place + 24 * 0 = omega arith in ap (λ p. record_in b p ∷ []) e
records_in-more b (suc n) place =
    let e : place + 24 + 24 * n ≡ place + 24 * suc n = omega arith in
    let m : suc n + 1 ≡ suc (n + 1) = omega arith in
    ap (λ k. records_in b k place) m ∙ ap (λ l. record_in b place ∷ l) (records_in-more b n (place + 24) ∙ ap (λ p. records_in b n (place + 24) ++ record_in b p ∷ []) e)

-- one more child pointer behind n of them
pub children_in-more : (b : List ℕ) (depth n place : ℕ) → children_in b depth (n + 1) place ≡ children_in b depth n place ++ child_in b depth (place + n * pointer_size depth) ∷ []
children_in-more b depth zero place = let e : place ≡ place + 0 * pointer_size depth = omega arith in ap (λ p. child_in b depth p ∷ []) e
children_in-more b depth (suc n) place =
    let w : ℕ = pointer_size depth in
    let e : place + w + n * w ≡ place + suc n * w = omega arith in
    let m : suc n + 1 ≡ suc (n + 1) = omega arith in
    ap (λ k. children_in b depth k place) m
    ∙ ap (λ l. child_in b depth place ∷ l) (children_in-more b depth n (place + w) ∙ ap (λ p. children_in b depth n (place + w) ++ child_in b depth p ∷ []) e)

-- the tests of n child pointers that are left from the one at i on
abbrev pub counts_left : List ℕ → ℕ → ℕ → ℕ → ℕ → ℕ → Result (Unit {0}) BlockFault
counts_left b at depth n from i = checked (child_tests b at depth (n - i) (from + i * pointer_size depth)) (tt {0})

counts_left-more : (b : List ℕ) (at depth n from i k : ℕ) → n - i ≡ suc k → n - (i + 1) ≡ k →
    counts_left b at depth n from i
    ≡ cond (nat_le (field b (from + i * pointer_size depth + 8) 1) (capacity_of (depth - 1))) (counts_left b at depth n from (i + 1))
    (Err (Field (at + (from + i * pointer_size depth) + 8) (field b (from + i * pointer_size depth + 8) 1)))
counts_left-more b at depth n from i k e f =
    let w : ℕ = pointer_size depth in
    let p : from + i * w + w ≡ from + (i + 1) * w = omega arith in
    ap (λ m. checked (child_tests b at depth m (from + i * w)) (tt {0})) e
    ∙ ap (λ q. cond (nat_le (field b (from + i * w + 8) 1) (capacity_of (depth - 1))) (checked (child_tests b at depth k q) (tt {0})) (Err (Field (at + (from + i * w) + 8) (field b (from + i * w + 8) 1)))) p
    ∙ ap (λ m. cond (nat_le (field b (from + i * w + 8) 1) (capacity_of (depth - 1))) (checked (child_tests b at depth m (from + (i + 1) * w)) (tt {0})) (Err (Field (at + (from + i * w) + 8) (field b (from + i * w + 8) 1)))) (sym f)

pub counts_left-passes : (b : List ℕ) (at depth n from i : ℕ) → i < n → field b (from + i * pointer_size depth + 8) 1 ≤ capacity_of (depth - 1) → counts_left b at depth n from i ≡ counts_left b at depth n from (i + 1)
counts_left-passes b at depth n from i h le =
    let place : ℕ = from + i * pointer_size depth in
    counts_left-more b at depth n from i (n - i - 1) (omega arith) (omega arith)
    ∙ ap (λ t. cond t (counts_left b at depth n from (i + 1)) (Err (Field (at + place + 8) (field b (place + 8) 1)))) (le-leb (field b (place + 8) 1) (capacity_of (depth - 1)) le)

pub counts_left-fails : (b : List ℕ) (at depth n from i : ℕ) → i < n → capacity_of (depth - 1) < field b (from + i * pointer_size depth + 8) 1 →
    counts_left b at depth n from i ≡ Err (Field (at + (from + i * pointer_size depth + 8)) (field b (from + i * pointer_size depth + 8) 1))
counts_left-fails b at depth n from i h lt =
    let place : ℕ = from + i * pointer_size depth in
    let e : at + place + 8 ≡ at + (place + 8) = omega arith in
    counts_left-more b at depth n from i (n - i - 1) (omega arith) (omega arith)
    ∙ ap (λ t. cond t (counts_left b at depth n from (i + 1)) (Err (Field (at + place + 8) (field b (place + 8) 1)))) (lt-leb (field b (place + 8) 1) (capacity_of (depth - 1)) lt)
    ∙ ap (λ p. Err (Field p (field b (place + 8) 1))) e

pub counts_left-none : (b : List ℕ) (at depth n from i : ℕ) → n ≤ i → counts_left b at depth n from i ≡ Ok (tt {0})
counts_left-none b at depth n from i h =
    let e : n - i ≡ 0 = omega arith in
    ap (λ m. checked (child_tests b at depth m (from + i * pointer_size depth)) (tt {0})) e

pub counts_left-all : (b : List ℕ) (at depth n from : ℕ) → counts_left b at depth n from 0 ≡ checked (child_tests b at depth n from) (tt {0})
counts_left-all b at depth n from =
    let e : n - 0 ≡ n = omega arith in
    let p : from + 0 * pointer_size depth ≡ from = omega arith in
    ap (λ m. checked (child_tests b at depth m (from + 0 * pointer_size depth)) (tt {0})) e ∙ ap (λ q. checked (child_tests b at depth n q) (tt {0})) p
