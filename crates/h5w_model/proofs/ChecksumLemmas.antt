-- A checksum fits four bytes, so a body with its sum behind it is sealed.
use Rattle.std.proofs.Common.{◌≡◌, ℕ, zero, suc, ◌+◌, ◌-◌, ◌/◌, ◌^◌, ◌<◌, ◌≤◌, true, List, [], ◌∷◌, length, take, drop, ap, sym, ◌∙◌, arith, length-append, eq-eqb}
use Rattle.std.proofs.lemmas.List.{take_all, take_at, drop_at, length-drop}
use Rattle.h5w_model.specs.Numbers.{num, le, field}
use Rattle.h5w_model.specs.Checksum.{Words, finish_line, finished, added, rounds, begun, mixed, sum_of, stored_sum, computed_sum, is_sealed, sealed_block}
use Rattle.h5w_model.proofs.NumberLemmas.{length-le, num-le}

pub finished-lt : (w : Words) → finished w < 2 ^ 32
unfolding finished finish_line
finished-lt w = omega arith

pub rounds-lt : (n : ℕ) (w : Words) (bytes : List ℕ) → rounds n w bytes < 2 ^ 32
unfolding rounds
rounds-lt zero w bytes = finished-lt (added w bytes)
rounds-lt (suc n) w bytes = rounds-lt n (mixed (added w bytes)) (drop 12 bytes)

-- a sum is below 2^32
pub sum_of-lt : (bytes : List ℕ) → sum_of bytes < 2 ^ 32
unfolding sum_of
sum_of-lt [] = omega arith
sum_of-lt (byte ∷ rest) = rounds-lt (length rest / 12) (begun (length (byte ∷ rest))) (byte ∷ rest)

-- the rounds of some bytes, where there are any
pub sum_of-some : (bytes : List ℕ) → 0 < length bytes → sum_of bytes ≡ rounds ((length bytes - 1) / 12) (begun (length bytes)) bytes
unfolding sum_of
sum_of-some [] h = omega arith
sum_of-some (byte ∷ rest) h =
    let before_last : suc (length rest) - 1 ≡ length rest = omega arith in
    ap (λ (n : ℕ). rounds (n / 12) (begun (suc (length rest))) (byte ∷ rest)) (sym before_last)

-- the sum that a block ends with, as a field
pub field-stored_sum : (block : List ℕ) → 4 ≤ length block → field block (length block - 4) 4 ≡ stored_sum block
field-stored_sum block h =
    let last : length (drop (length block - 4) block) ≤ 4 = omega (arith, length-drop (length block - 4) block) in
    ap num (take_all 4 (drop (length block - 4) block) last)

-- a sealed block is four bytes longer than its body
pub length-sealed_block : (body : List ℕ) → length (sealed_block body) ≡ length body + 4
length-sealed_block body = length-append body (le 4 (sum_of body)) ∙ ap (λ (n : ℕ). length body + n) (length-le 4 (sum_of body))

-- its body
pub take-sealed_block : (body : List ℕ) → take (length (sealed_block body) - 4) (sealed_block body) ≡ body
take-sealed_block body = take_at body (le 4 (sum_of body)) (length (sealed_block body) - 4) (omega (arith, length-sealed_block body))

pub computed_sum-sealed_block : (body : List ℕ) → computed_sum (sealed_block body) ≡ sum_of body
computed_sum-sealed_block body = ap sum_of (take-sealed_block body)

-- the sum behind the body
pub stored_sum-sealed_block : (body : List ℕ) → stored_sum (sealed_block body) ≡ sum_of body
stored_sum-sealed_block body =
    ap num (drop_at body (le 4 (sum_of body)) (length (sealed_block body) - 4) (omega (arith, length-sealed_block body)))
    ∙ num-le 4 (sum_of body) (sum_of-lt body)

-- so it is sealed
pub is_sealed-sealed_block : (body : List ℕ) → is_sealed (sealed_block body) ≡ true
is_sealed-sealed_block body =
    eq-eqb (stored_sum (sealed_block body)) (computed_sum (sealed_block body)) (stored_sum-sealed_block body ∙ sym (computed_sum-sealed_block body))
