-- The slot's place by the logarithm that the code takes.
use Rattle.std.proofs.Common.{◌≡◌, ℕ, zero, suc, ◌+◌, ◌-◌, ◌*◌, ◌/◌, ◌%◌, ◌^◌, ◌<◌, ◌≤◌, [], ◌∷◌, get_or, refl, sym, ap, ◌∙◌, arith, cond, true, false, ltb}
use Rattle.std.proofs.lemmas.Nat.{pow-add}
use Rattle.std.proofs.lemmas.Bool.Decides.{nat_tests}
use Rattle.h5w_model.specs.Numbers.{halvings}
use Rattle.h5w_model.specs.Arrays.{super_block_of, SlotPlace, slot_place_of, named_place, place_of, blocks_before}
use Rattle.h5w_model.specs.declared.cell.Place.TheVariants.{Index, Direct, Second}
use Rattle.h5w_model.proofs.NumberLemmas.{halvings-is}

-- a slot's place in a super block
abbrev pub in_super : ℕ → ℕ → SlotPlace
in_super j s = record { sblock = s; block = (j - (super_block_of s).start) / (super_block_of s).slots; slot = (j - (super_block_of s).start) % (super_block_of s).slots }

pub slot_place_of-is : (j s : ℕ) → j < 2 ^ 64 → 2 ^ s ≤ j / 16 + 1 → j / 16 + 1 < 2 * 2 ^ s → slot_place_of j ≡ in_super j s
slot_place_of-is j s h low high =
    let twice : 2 ^ (s + 1) ≡ 2 ^ s * 2 ^ 1 = pow-add 2 s 1 in
    let is : halvings 63 (j / 16 + 1) ≡ s = halvings-is 63 (j / 16 + 1) s low (omega (arith, twice)) (omega arith) in
    ap (in_super j) is

pub place_of-behind : (i j : ℕ) → i ≡ j + 4 → place_of i ≡ named_place (slot_place_of j)
place_of-behind i j e =
    ap place_of e ∙ ap (λ k. cond (ltb (j + 4) 4) (Index (j + 4)) (named_place (slot_place_of k))) (let k : j + 4 - 4 ≡ j = omega arith in k)
    ∙ ap (λ t. cond t (Index (j + 4)) (named_place (slot_place_of j))) (let f : ltb (j + 4) 4 ≡ false = grind (arith, nat_tests) in f)

pub named_place-direct : (p : SlotPlace) → p.sblock < 4 → named_place p ≡ Direct (blocks_before p.sblock + p.block) p.slot
named_place-direct p h = ap (λ t. cond t (Direct (blocks_before p.sblock + p.block) p.slot) (Second p.sblock p.block p.slot)) (let f : ltb p.sblock 4 ≡ true = grind (arith, nat_tests) in f)

pub named_place-second : (p : SlotPlace) → 4 ≤ p.sblock → named_place p ≡ Second p.sblock p.block p.slot
named_place-second p h = ap (λ t. cond t (Direct (blocks_before p.sblock + p.block) p.slot) (Second p.sblock p.block p.slot)) (let f : ltb p.sblock 4 ≡ false = grind (arith, nat_tests) in f)

pub before_row : (s : ℕ) → s < 4 → get_or (0 ∷ 1 ∷ 2 ∷ 4 ∷ []) s 0 ≡ blocks_before s
before_row zero h = refl
before_row (suc zero) h = refl
before_row (suc (suc zero)) h = refl
before_row (suc (suc (suc zero))) h = refl
before_row (suc (suc (suc (suc s)))) h = absurd (omega arith)

pub place_of-direct : (i j s before : ℕ) → i ≡ j + 4 → slot_place_of j ≡ in_super j s → s < 4 → before ≡ blocks_before s → place_of i ≡ Direct (before + (in_super j s).block) (in_super j s).slot
place_of-direct i j s before e p h b =
    place_of-behind i j e ∙ ap named_place p ∙ named_place-direct (in_super j s) h ∙ ap (λ k. Direct (k + (in_super j s).block) (in_super j s).slot) (sym b)

pub place_of-second : (i j s : ℕ) → i ≡ j + 4 → slot_place_of j ≡ in_super j s → 4 ≤ s → place_of i ≡ Second s (in_super j s).block (in_super j s).slot
place_of-second i j s e p h = place_of-behind i j e ∙ ap named_place p ∙ named_place-second (in_super j s) h

-- the numbers that the code has once it took the logarithm
pub record IsReckoned (i j s slots start : ℕ) : Type 0 where
  pub behind : 4 ≤ i
  pub number : j ≡ i - 4
  pub below : j < 2 ^ 64
  pub low : 2 ^ s ≤ j / 16 + 1
  pub high : j / 16 + 1 < 2 * 2 ^ s
  pub slots_is : slots ≡ (super_block_of s).slots
  pub start_is : start ≡ (super_block_of s).start

pub direct_place : (i j s slots start before : ℕ) → IsReckoned i j s slots start → s < 4 → before ≡ get_or (0 ∷ 1 ∷ 2 ∷ 4 ∷ []) s 0 → Direct (before + (j - start) / slots) ((j - start) % slots) ≡ place_of i
direct_place i j s slots start before r h b =
    ap (λ n. Direct (before + (j - start) / n) ((j - start) % n)) r.slots_is
    ∙ ap (λ m. Direct (before + (j - m) / (super_block_of s).slots) ((j - m) % (super_block_of s).slots)) r.start_is
    ∙ sym (place_of-direct i j s before (omega (arith, r.behind, r.number)) (slot_place_of-is j s r.below r.low r.high) h (b ∙ before_row s h))

pub second_place : (i j s sblock slots start : ℕ) → IsReckoned i j s slots start → 4 ≤ s → sblock ≡ s → Second sblock ((j - start) / slots) ((j - start) % slots) ≡ place_of i
second_place i j s sblock slots start r h e =
    ap (λ n. Second sblock ((j - start) / n) ((j - start) % n)) r.slots_is
    ∙ ap (λ m. Second sblock ((j - m) / (super_block_of s).slots) ((j - m) % (super_block_of s).slots)) r.start_is
    ∙ ap (λ k. Second k (in_super j s).block (in_super j s).slot) e
    ∙ sym (place_of-second i j s (omega (arith, r.behind, r.number)) (slot_place_of-is j s r.below r.low r.high) h)
