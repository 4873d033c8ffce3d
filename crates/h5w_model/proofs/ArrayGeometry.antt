-- Where the slots of an extensible array stand: each slot stands inside the super block, the data block and the
-- place that its number gives.
use Rattle.std.proofs.Common.{◌≡◌, ℕ, zero, suc, ◌+◌, ◌-◌, ◌*◌, ◌/◌, ◌%◌, ◌^◌, ◌<◌, ◌≤◌, get_or, ◌⊎◌, inl, inr, refl, sym, ap, ◌∙◌, arith}
use Rattle.std.proofs.lemmas.Bool.{cases_lt}
use Rattle.std.proofs.Math.Nat.{div-lt_iff_lt-mul, mod-eq-sub-div-mul, div-mul-le_self, pow-le-pow_right}
use Rattle.std.proofs.lemmas.Nat.{pow-add, pow_pos}
use Rattle.h5w_model.specs.Numbers.{halvings}
use Rattle.h5w_model.specs.Arrays.{super_block_of, super_blocks, slot_place_of, IsSlotPlace}
use Rattle.h5w_model.proofs.NumberLemmas.{halvings-spans}

-- a super block has 16 * 2^s slots
pub super_block-slots : (s : ℕ) → (super_block_of s).blocks * (super_block_of s).slots ≡ 16 * 2 ^ s
super_block-slots s =
    let a : ℕ = 2 ^ (s / 2) in
    let b : ℕ = 2 ^ ((s + 1) / 2) in
    let halves : s / 2 + (s + 1) / 2 ≡ s = omega arith in
    let e : 2 ^ (s / 2) * 2 ^ ((s + 1) / 2) ≡ 2 ^ s = sym (pow-add 2 (s / 2) ((s + 1) / 2)) ∙ ap (λ k. 2 ^ k) halves in
    let m : 2 ^ (s / 2) * (16 * 2 ^ ((s + 1) / 2)) ≡ 16 * (2 ^ (s / 2) * 2 ^ ((s + 1) / 2)) = grind arith in
    m ∙ ap (λ k. 16 * k) e

-- the super block of slot j begins at or before it and ends behind it
pub super_block-spans : (j s : ℕ) → 2 ^ s ≤ j / 16 + 1 → j / 16 + 1 < 2 ^ (s + 1) →
    ((super_block_of s).start ≤ j) × (j - (super_block_of s).start < (super_block_of s).blocks * (super_block_of s).slots)
super_block-spans j s low high =
    let twice : 2 ^ (s + 1) ≡ 2 ^ s * 2 = pow-add 2 s 1 in
    let p : ℕ = 2 ^ s in
    let some = pow_pos s in
    (omega arith, omega (arith, super_block-slots s, twice))

-- r places behind a start, by lines of n
pub in_lines : (j start r n lines : ℕ) → start + r ≡ j → 0 < n → r < lines * n → (start + r / n * n + r % n ≡ j) × (r / n < lines) × (r % n < n)
in_lines j start r n lines e some h =
    (omega (arith, mod-eq-sub-div-mul r n, div-mul-le_self r n), (div-lt_iff_lt-mul some).1 h, omega arith)

-- the place inside a super block
pub IsSlotPlace-in : (j s : ℕ) → (super_block_of s).start ≤ j → j - (super_block_of s).start < (super_block_of s).blocks * (super_block_of s).slots →
    IsSlotPlace j (record { sblock = s; block = (j - (super_block_of s).start) / (super_block_of s).slots; slot = (j - (super_block_of s).start) % (super_block_of s).slots })
IsSlotPlace-in j s low high =
    let some : 0 < (super_block_of s).slots = omega (arith, pow_pos ((s + 1) / 2)) in
    let l = in_lines j (super_block_of s).start (j - (super_block_of s).start) (super_block_of s).slots (super_block_of s).blocks (omega arith) some high in
    record { number = l.0; block_inside = l.1; slot_inside = l.2 }

pub slot_place-stands : (j : ℕ) → j < 2 ^ 64 → IsSlotPlace j (slot_place_of j)
slot_place-stands j h =
    let spans = halvings-spans 63 (j / 16 + 1) (omega arith) (omega arith) in
    let inside = super_block-spans j (halvings 63 (j / 16 + 1)) spans.0 spans.1 in
    IsSlotPlace-in j (halvings 63 (j / 16 + 1)) inside.0 inside.1

pub below_13 : (s m : ℕ) → 2 ^ s ≤ m → m < 8192 → (s < 13) ⊎ (13 ≤ s) → s ≤ 12
below_13 s m low high (inl lt) = omega arith
below_13 s m low high (inr le) = absurd (omega (arith, pow-le-pow_right {n = 2} (omega arith) le))

-- the slots of chunks below 131,060 stand in super blocks 0 to 12
pub slot_place-super : (j : ℕ) → j < 131056 → (slot_place_of j).sblock ≤ 12
slot_place-super j h =
    let spans = halvings-spans 63 (j / 16 + 1) (omega arith) (omega arith) in
    below_13 (halvings 63 (j / 16 + 1)) (j / 16 + 1) spans.0 (omega arith) (cases_lt (halvings 63 (j / 16 + 1)) 13)
