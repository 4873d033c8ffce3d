-- Each chunk number's address is found behind the index block of an array that stands on an image.
use Rattle.std.proofs.Common.{◌≡◌, ◌⊎◌, ℕ, zero, suc, ◌+◌, ◌-◌, ◌*◌, ◌<◌, ◌≤◌, true, false, cond, List, [], ◌++◌, length, get_or, Result, Ok, refl, sym, ap, ◌∙◌, inl, inr, arith}
use Rattle.std.specs.Prelude.{nat_lt, map}
use Rattle.std.specs.List.{range_with_len}
use Rattle.std.proofs.lemmas.Bool.{cases_Bool, ltb-true, ltb-false, lt-ltb}
use Rattle.std.proofs.lemmas.List.{length-map, get_or-map, get_or_append_left}
use Rattle.std.proofs.lemmas.List.FromFn.{length-range_with_len, get_or-map-range_with_len}
use Rattle.h5w_model.specs.Numbers.{undefined}
use Rattle.h5w_model.specs.Images.{At}
use Rattle.h5w_model.specs.Programs.{Prog, ret, eval}
use Rattle.h5w_model.specs.Arrays.{EaibFields, SlotPlace, IsSlotPlace, super_block_of, numbers_in, eaib_fields, slot_place_of, slots_len, named_place, place_of, blocks_before}
use Rattle.h5w_model.specs.Tables.{address_behind, array_slot, data_slot, secondary_slot, super_block_of_first}
use Rattle.h5w_model.specs.declared.cell.Key.{Key}
use Rattle.h5w_model.specs.declared.cell.Place.{Place}
use Rattle.h5w_model.specs.declared.cell.Place.TheVariants.{Index, Direct, Second}
use Rattle.h5w_model.specs.declared.refusal.ReadError.{ReadError}
use Rattle.h5w_model.proofs.ArrayGeometry.{slot_place-stands, slot_place-super}
use Rattle.h5w_cache.specs.Blocks.{BlockView}
use Rattle.h5w_cache.specs.Stores.{Store}
use Rattle.h5w_array_laws.specs.Parts.{Part, IsPart, data_of, secondary_of, index_block, first_parts, second_parts, data_blocks_of, holder, holder_of, number_of, slot_offset}
use Rattle.h5w_array_laws.specs.ArrayStores.{IsArray, block_at_part, bytes_at_part, place_at_part, address_in, map_of, blocks_in_place}
use Rattle.h5w_array_laws.specs.ArrayImages.{BehindStands}
use Rattle.h5w_array_laws.proofs.NumberLemmas.{numbers_in-get}
use Rattle.h5w_array_laws.proofs.SlotLemmas.{if_placed-some, data_slot_found, secondary_slot_found}
use Rattle.h5w_array_laws.proofs.GeometryLemmas.{first_number}
use Rattle.h5w_array_laws.proofs.BlockLemmas.{data_head, secondary_head}
use Rattle.h5w_array_laws.proofs.KeptLemmas.{IsKept, KeptOrNone, data_sealed, kept_bytes, kept_in_place, kept_or_none, kept_placed, kept_there, secondary_sealed, unchanged}
use Rattle.h5w_array_laws.proofs.VisitedLemmas.{few_blocks, none_under, IndexNames, index_names}

-- what is looked up at a slot's place
abbrev pub slot_at : EaibFields → Place → Prog (Result ℕ ReadError)
slot_at e place = elim place as (λ _. Prog (Result ℕ ReadError)) [
  | Index slot ↦ ret (Ok (get_or e.slots slot undefined))
  | Direct block slot ↦ data_slot (get_or e.first block undefined) (super_block_of (super_block_of_first block)).slots slot
  | Second sblock block slot ↦ secondary_slot (get_or e.second (sblock - 4) undefined) sblock block slot
]

-- ---- The addresses that name a block

pub first_place : (place : Part → ℕ) (s n : ℕ) → s < 4 → n < (super_block_of s).blocks → get_or (map place first_parts) (blocks_before s + n) undefined ≡ place (data_of s n)
first_place place zero zero h l = refl
first_place place zero (suc n) h l = absurd (omega arith)
first_place place (suc zero) zero h l = refl
first_place place (suc zero) (suc n) h l = absurd (omega arith)
first_place place (suc (suc zero)) zero h l = refl
first_place place (suc (suc zero)) (suc zero) h l = refl
first_place place (suc (suc zero)) (suc (suc n)) h l = absurd (omega arith)
first_place place (suc (suc (suc zero))) zero h l = refl
first_place place (suc (suc (suc zero))) (suc zero) h l = refl
first_place place (suc (suc (suc zero))) (suc (suc n)) h l = absurd (omega arith)
first_place place (suc (suc (suc (suc s)))) n h l = absurd (omega arith)

pub second_place : (place : Part → ℕ) (s : ℕ) (more : List ℕ) → 4 ≤ s → s ≤ 12 → get_or (map place second_parts ++ more) (s - 4) undefined ≡ place (secondary_of s)
second_place place s more far low =
    let parts : List Part = second_parts in
    let count : length parts ≡ 9 = refl in
    let inside : s - 4 < length parts = omega arith in
    let at : 4 + (s - 4) ≡ s = omega arith in
    get_or_append_left (map place parts) more undefined (s - 4) (omega (arith, length-map parts place))
    ∙ get_or-map place parts (s - 4) index_block undefined inside
    ∙ ap place (get_or-map-range_with_len secondary_of 4 9 (s - 4) s index_block (omega arith) at)

pub data_place : (place : Part → ℕ) (s n : ℕ) → n < (super_block_of s).blocks → get_or (map place (data_blocks_of s)) n undefined ≡ place (data_of s n)
data_place place s n h =
    let blocks : List Part = data_blocks_of s in
    let inside : n < length blocks = omega (arith, length-map (range_with_len 0 (super_block_of s).blocks) (data_of s), length-range_with_len 0 (super_block_of s).blocks) in
    get_or-map place blocks n index_block undefined inside
    ∙ ap place (get_or-map-range_with_len (data_of s) 0 (super_block_of s).blocks n n index_block h (omega arith))

pub count_blocks : (s : ℕ) → length (data_blocks_of s) ≡ (super_block_of s).blocks
count_blocks s = length-map (range_with_len 0 (super_block_of s).blocks) (data_of s) ∙ length-range_with_len 0 (super_block_of s).blocks

-- ---- Slots

-- where those blocks stand that are asked for
module _ (v : Store) (img : List ℕ) (a : IsArray v) (clean : v.changed ≡ []) (Asked : Part → Type 0)
    (stands : (k : Part) → IsPart k → number_of k < 845 → Asked k → (b : BlockView) → IsKept v k b → At img (place_at_part v k) (bytes_at_part v k)) where
  data_slot_is : (s n slot : ℕ) → s ≤ 12 → n < (super_block_of s).blocks → slot < (super_block_of s).slots → Asked (data_of s n)
      → eval img (data_slot (place_at_part v (data_of s n)) (super_block_of s).slots slot) ≡ Ok (address_in (block_at_part v (data_of s n)) (18 + 8 * slot))
  data_slot_is s n slot low inside few asked = go (kept_or_none v a (data_of s n) (low, inside) (unchanged v clean (number_of (data_of s n))))
    where
      go : KeptOrNone v (data_of s n) → eval img (data_slot (place_at_part v (data_of s n)) (super_block_of s).slots slot) ≡ Ok (address_in (block_at_part v (data_of s n)) (18 + 8 * slot))
      go (inl t) = ap (λ p. eval img (data_slot p (super_block_of s).slots slot)) t.1 ∙ ap (λ o. Ok (address_in o (18 + 8 * slot))) (sym t.0)
      go (inr t) =
          let short = few_blocks s low in
          data_slot_found img (super_block_of s).slots (place_at_part v (data_of s n)) slot t.0.bytes
          (λ placed. kept_there v img (data_of s n) t.0 data_head (slots_len (super_block_of s).slots) t.1 (data_sealed v s n t.0 t.1) (stands (data_of s n) (low, inside) (omega arith) asked t.0 t.1))
          ∙ ap Ok (if_placed-some (place_at_part v (data_of s n)) (get_or (numbers_in t.0.bytes (super_block_of s).slots 18) slot undefined) t.1.whole.placed)
          ∙ ap Ok (numbers_in-get t.0.bytes (super_block_of s).slots 18 slot undefined few)
          ∙ ap (λ o. Ok (address_in o (18 + 8 * slot))) (sym t.1.kept)

  secondary_slot_is : (s n slot : ℕ) → 4 ≤ s → s ≤ 12 → n < (super_block_of s).blocks → slot < (super_block_of s).slots → Asked (secondary_of s) → Asked (data_of s n)
      → eval img (secondary_slot (place_at_part v (secondary_of s)) s n slot) ≡ Ok (address_in (block_at_part v (data_of s n)) (18 + 8 * slot))
  secondary_slot_is s n slot far low inside few above asked = go (kept_or_none v a (secondary_of s) (far, low) (unchanged v clean (number_of (secondary_of s))))
    where
      x : ℕ
      x = address_in (block_at_part v (data_of s n)) (18 + 8 * slot)

      go : KeptOrNone v (secondary_of s) → eval img (secondary_slot (place_at_part v (secondary_of s)) s n slot) ≡ Ok (address_in (block_at_part v (data_of s n)) (18 + 8 * slot))
      go (inl t) =
          ap (λ p. eval img (secondary_slot p s n slot)) t.1
          ∙ ap (λ o. Ok (address_in o (18 + 8 * slot))) (sym (none_under v a s n far low inside t.0))
      go (inr t) =
          let names : numbers_in t.0.bytes (super_block_of s).blocks 18 ≡ map (place_at_part v) (data_blocks_of s) = ap (λ m. numbers_in t.0.bytes m 18) (sym (count_blocks s)) ∙ t.1.names in
          let named : get_or (numbers_in t.0.bytes (super_block_of s).blocks 18) n undefined ≡ place_at_part v (data_of s n) = ap (λ l. get_or l n undefined) names ∙ data_place (place_at_part v) s n inside in
          secondary_slot_found img s (place_at_part v (secondary_of s)) n slot x t.0.bytes
          (λ placed. kept_there v img (secondary_of s) t.0 secondary_head (slots_len (super_block_of s).blocks) t.1 (secondary_sealed v s t.0 t.1) (stands (secondary_of s) (far, low) (omega arith) above t.0 t.1))
          (λ placed. ap (λ p. eval img (data_slot p (super_block_of s).slots slot)) named ∙ data_slot_is s n slot low inside few asked)
          ∙ ap Ok (if_placed-some (place_at_part v (secondary_of s)) x t.1.whole.placed)

  -- behind the index block's own slots
  behind_slot : (e : List ℕ) → IndexNames v e → (j : ℕ) (p : SlotPlace) → IsSlotPlace j p → p.sblock ≤ 12 → Asked (data_of p.sblock p.block) → (4 ≤ p.sblock → Asked (secondary_of p.sblock))
      → eval img (slot_at (eaib_fields e) (named_place p)) ≡ Ok (address_in (block_at_part v (data_of p.sblock p.block)) (18 + 8 * p.slot))
  behind_slot e names j p is low asked above = go (cases_Bool (nat_lt p.sblock 4))
    where
      s : ℕ
      s = p.sblock

      n : ℕ
      n = p.block

      go : (nat_lt p.sblock 4 ≡ true) ⊎ (nat_lt p.sblock 4 ≡ false) → eval img (slot_at (eaib_fields e) (named_place p)) ≡ Ok (address_in (block_at_part v (data_of p.sblock p.block)) (18 + 8 * p.slot))
      go (inl t) =
          let near = ltb-true s 4 t in
          let f = first_number s n near is.block_inside in
          ap (λ c. eval img (slot_at (eaib_fields e) (cond c (Direct (blocks_before s + n) p.slot) (Second s n p.slot)))) t
          ∙ ap (λ k. eval img (data_slot (get_or (numbers_in e 6 46) (blocks_before s + n) undefined) (super_block_of k).slots p.slot)) f.1
          ∙ ap (λ q. eval img (data_slot q (super_block_of s).slots p.slot)) (ap (λ l. get_or l (blocks_before s + n) undefined) names.first ∙ first_place (place_at_part v) s n near is.block_inside)
          ∙ data_slot_is s n p.slot low is.block_inside is.slot_inside asked
      go (inr t) =
          let far = ltb-false s 4 t in
          ap (λ c. eval img (slot_at (eaib_fields e) (cond c (Direct (blocks_before s + n) p.slot) (Second s n p.slot)))) t
          ∙ ap (λ q. eval img (secondary_slot q s n p.slot)) (ap (λ l. get_or l (s - 4) undefined) names.second ∙ second_place (place_at_part v) s (numbers_in e 16 166) far low)
          ∙ secondary_slot_is s n p.slot far low is.block_inside is.slot_inside (above far) asked

  slot_is : (b : BlockView) → IsKept v index_block b → (i : ℕ) → i < 131060 → (4 ≤ i → Asked (holder_of (slot_place_of (i - 4)))) → (4 ≤ i → 4 ≤ (slot_place_of (i - 4)).sblock → Asked (secondary_of (slot_place_of (i - 4)).sblock))
      → eval img (array_slot (eaib_fields b.bytes) i) ≡ Ok (address_in (block_at_part v (holder i)) (slot_offset i))
  slot_is b h i low asked above = go (cases_Bool (nat_lt i 4))
    where
      e : List ℕ
      e = b.bytes

      p : SlotPlace
      p = slot_place_of (i - 4)

      go : (nat_lt i 4 ≡ true) ⊎ (nat_lt i 4 ≡ false) → eval img (slot_at (eaib_fields b.bytes) (place_of i)) ≡ Ok (address_in (block_at_part v (holder i)) (slot_offset i))
      go (inl t) =
          ap (λ c. eval img (slot_at (eaib_fields e) (cond c (Index i) (named_place p)))) t
          ∙ ap Ok (numbers_in-get e 4 14 i undefined (ltb-true i 4 t))
          ∙ ap (λ o. Ok (address_in o (14 + 8 * i))) (sym h.kept)
          ∙ ap (λ c. Ok (address_in (block_at_part v (cond c index_block (data_of p.sblock p.block))) (cond c (14 + 8 * i) (18 + 8 * p.slot)))) (sym t)
      go (inr t) =
          let far = ltb-false i 4 t in
          ap (λ c. eval img (slot_at (eaib_fields e) (cond c (Index i) (named_place p)))) t
          ∙ behind_slot e (index_names v a b h) (i - 4) p (slot_place-stands (i - 4) (omega arith)) (slot_place-super (i - 4) (omega arith)) (asked far) (above far)
          ∙ ap (λ c. Ok (address_in (block_at_part v (cond c index_block (data_of p.sblock p.block))) (cond c (14 + 8 * i) (18 + 8 * p.slot)))) (sym t)

  -- where the blocks on the way to a chunk's slot stand
  pub asked_found : (key : Key) → key.i < 131060 → (4 ≤ key.i → Asked (holder_of (slot_place_of (key.i - 4)))) → (4 ≤ key.i → 4 ≤ (slot_place_of (key.i - 4)).sblock → Asked (secondary_of (slot_place_of (key.i - 4)).sblock))
      → eval img (address_behind (blocks_in_place v) key) ≡ Ok (map_of v key.i)
  asked_found key low asked above =
      let t = kept_in_place v a index_block tt refl (unchanged v clean 845) in
      ap (λ b. eval img (array_slot (eaib_fields b) key.i)) (kept_bytes v index_block t.0 t.1)
      ∙ slot_is t.0 t.1 key.i low asked above
      ∙ ap (λ c. Ok (cond c (address_in (block_at_part v (holder key.i)) (slot_offset key.i)) undefined)) (sym (lt-ltb key.i 131060 low))

-- where all stand
pub address_found : (v : Store) (img : List ℕ) → IsArray v → v.changed ≡ [] → BehindStands v img → (key : Key) → key.i < 131060 → eval img (address_behind (blocks_in_place v) key) ≡ Ok (map_of v key.i)
address_found v img a clean stands key low = asked_found v img a clean (λ k. Unit {0}) (λ k part inside asked b h. stands (number_of k) (kept_placed v k b h) inside) key low (λ far. tt) (λ far second. tt)
