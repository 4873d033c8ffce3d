-- The ranges behind an array's blocks in place are told by its map and by the places of its blocks.
use Rattle.std.proofs.Common.{◌≡◌, ℕ, zero, suc, ◌+◌, ◌-◌, ◌*◌, ◌/◌, ◌%◌, ◌^◌, ◌<◌, ◌≤◌, List, [], ◌∷◌, Option, Some, None, refl, sym, ap, ◌∙◌, inl, inr, arith}
use Rattle.std.proofs.lemmas.Bool.{cases_lt}
use Rattle.std.proofs.lemmas.Nat.{mul-le, pow-add}
use Rattle.std.proofs.Math.Nat.{pow-le-pow_right}
use Rattle.h5w_model.specs.Numbers.{undefined, field, halvings}
use Rattle.h5w_model.specs.Arrays.{SlotPlace, numbers_in, slot_place_of, super_block_of}
use Rattle.h5w_model.proofs.ArrayGeometry.{super_block-slots}
use Rattle.h5w_model.proofs.NumberLemmas.{halvings-spans}
use Rattle.h5w_cache.specs.Blocks.{BlockView}
use Rattle.h5w_cache.specs.Stores.{Store, place_of}
use Rattle.h5w_chunks.proofs.Geometry.{number_parts}
use Rattle.h5w_array_laws.specs.Parts.{Part, data_of, secondary_of, index_block, header, IsPart, holder, holder_of, number_of, slot_count, slot_offset, slots_from}
use Rattle.h5w_array_laws.specs.ArrayStores.{address_in, behind_of, block_at_part, chunks_in, map_of, slots_in}
use Rattle.h5w_ea_index.proofs.PartLemmas.{holder_high, holder_low}
use Rattle.h5w_ea_index.proofs.StepLemmas.{behind_same}
use Rattle.h5w_ea_index.proofs.WayLemmas.{map_low}

-- ---- Each slot is that of a chunk number

one_power : (s h m : ℕ) → 2 ^ s ≤ m → m < 2 ^ (s + 1) → 2 ^ h ≤ m → m < 2 ^ (h + 1) → h ≡ s
one_power s h m low high lower higher =
    elim (cases_lt s h) [
      | inl less ↦ absurd (omega (arith, pow-le-pow_right {n = 2} (omega arith) {i = s + 1} {j = h} (omega arith)))
      | inr more ↦
          elim (cases_lt h s) [
            | inl less ↦ absurd (omega (arith, pow-le-pow_right {n = 2} (omega arith) {i = h + 1} {j = s} (omega arith)))
            | inr fewer ↦ omega arith
          ]
    ]

abbrev slot_number : ℕ → ℕ → ℕ → ℕ
slot_number s b t = (super_block_of s).start + (b * (super_block_of s).slots + t)

record IsThere (s b t : ℕ) : Type 0 where
  below : slot_number s b t < 131056
  place : slot_place_of (slot_number s b t) ≡ record { sblock = s; block = b; slot = t }

slot_there : (s b t : ℕ) → s ≤ 12 → b < (super_block_of s).blocks → t < (super_block_of s).slots → IsThere s b t
slot_there s b t few inside low =
    let slots = (super_block_of s).slots in
    let blocks = (super_block_of s).blocks in
    let start = (super_block_of s).start in
    let j = slot_number s b t in
    let p : ℕ = 2 ^ s in
    let some : 1 ≤ 2 ^ s = pow-le-pow_right {n = 2} (omega arith) {i = 0} {j = s} (omega arith) in
    let top : 2 ^ s ≤ 2 ^ 12 = pow-le-pow_right {n = 2} (omega arith) {i = s} {j = 12} few in
    let twice : 2 ^ (s + 1) ≡ 2 ^ s * 2 = pow-add 2 s 1 in
    let whole = super_block-slots s in
    let step : (b + 1) * slots ≤ blocks * slots = mul-le (b + 1) slots blocks slots (omega arith) (omega arith) in
    let one : (b + 1) * slots ≡ b * slots + slots = grind arith in
    let ends : b * slots + t < 16 * 2 ^ s = omega (arith, step, one, whole) in
    let from : 2 ^ s ≤ j / 16 + 1 = omega (arith, some) in
    let to : j / 16 + 1 < 2 ^ (s + 1) = omega (arith, some, ends, twice) in
    let below : j < 131056 = omega (arith, some, ends, top) in
    let spans = halvings-spans 63 (j / 16 + 1) (omega arith) (omega arith) in
    let same : halvings 63 (j / 16 + 1) ≡ s = one_power s (halvings 63 (j / 16 + 1)) (j / 16 + 1) from to spans.0 spans.1 in
    let parts = number_parts b slots t low in
    let less : j - start ≡ b * slots + t = omega arith in
    let placed : ℕ → SlotPlace = λ n. record { sblock = n; block = (j - (super_block_of n).start) / (super_block_of n).slots; slot = (j - (super_block_of n).start) % (super_block_of n).slots } in
    let inner : ℕ → SlotPlace = λ n. record { sblock = s; block = n / slots; slot = n % slots } in
    record {
      below = below;
      place = ap placed same ∙ ap inner less ∙ (λ i. record { sblock = s; block = parts.0 i; slot = parts.1 i });
    }

record IsSlotOf (k : Part) (t : ℕ) : Type 0 where
  number : ℕ
  below : number < 131060
  holds : holder number ≡ k
  offset : slot_offset number ≡ slots_from k + 8 * t

slot_of : (k : Part) (t : ℕ) → IsPart k → t < slot_count k → IsSlotOf k t
slot_of (data_of s b) t is low =
    let there = slot_there s b t is.0 is.1 low in
    let j = slot_number s b t in
    let h = holder_high (j + 4) (omega arith) in
    let less : j + 4 - 4 ≡ j = omega arith in
    let place : slot_place_of (j + 4 - 4) ≡ record { sblock = s; block = b; slot = t } = ap slot_place_of less ∙ there.place in
    record {
      number = j + 4;
      below = omega (arith, there.below);
      holds = h.0 ∙ ap holder_of place;
      offset = h.1 ∙ ap (λ (p : SlotPlace). 18 + 8 * p.slot) place;
    }
slot_of (secondary_of s) t is low = absurd (omega (arith, low))
slot_of index_block t is low = let h = holder_low t low in record { number = t; below = omega (arith, low); holds = h.0; offset = h.1 }
slot_of header t is low = absurd (omega (arith, low))

-- ---- The chunks of a block by its slots

abbrev listed : (ℕ → ℕ) → ℕ → ℕ → List ℕ
listed f from zero = []
listed f from (suc n) = f from ∷ listed f (from + 1) n

listed_same : (f g : ℕ → ℕ) (from n : ℕ) → ((t : ℕ) → t < from + n → f t ≡ g t) → listed f from n ≡ listed g from n
listed_same f g from zero same = refl
listed_same f g from (suc n) same = λ i. same from (omega arith) i ∷ listed_same f g (from + 1) n (λ t low. same t (omega (arith, low))) i

none_listed : (bytes from n : ℕ) → chunks_in bytes (listed (λ t. undefined) from n) ≡ []
none_listed bytes from zero = refl
none_listed bytes from (suc n) = none_listed bytes (from + 1) n

numbers_listed : (b : List ℕ) (base from n place : ℕ) → place ≡ base + 8 * from → numbers_in b n place ≡ listed (λ t. field b (base + 8 * t) 8) from n
unfolding numbers_in
numbers_listed b base from zero place e = refl
numbers_listed b base from (suc n) place e = λ i. field b (e i) 8 ∷ numbers_listed b base (from + 1) n (place + 8) (omega (arith, e)) i

slots_listed : (bytes : ℕ) (o : Option BlockView) (k : Part) → chunks_in bytes (slots_in o k) ≡ chunks_in bytes (listed (λ t. address_in o (slots_from k + 8 * t)) 0 (slot_count k))
slots_listed bytes None k = sym (none_listed bytes 0 (slot_count k))
slots_listed bytes (Some b) k = ap (chunks_in bytes) (numbers_listed b.bytes (slots_from k) 0 (slot_count k) (slots_from k) (omega arith))

by_map : (v : Store) (k : Part) (t : ℕ) → (s : IsSlotOf k t) → address_in (block_at_part v k) (slots_from k + 8 * t) ≡ map_of v s.number
by_map v k t s =
    ap (λ (m : Part). address_in (block_at_part v m) (slots_from k + 8 * t)) (sym s.holds)
    ∙ ap (λ (n : ℕ). address_in (block_at_part v (holder s.number)) n) (sym s.offset)
    ∙ sym (map_low v s.number s.below)

chunks_same : (bytes : ℕ) (v w : Store) → ((i : ℕ) → map_of w i ≡ map_of v i) → (k : Part) → IsPart k → chunks_in bytes (slots_in (block_at_part w k) k) ≡ chunks_in bytes (slots_in (block_at_part v k) k)
chunks_same bytes v w map k is =
    slots_listed bytes (block_at_part w k) k
    ∙ ap (chunks_in bytes) (listed_same (λ t. address_in (block_at_part w k) (slots_from k + 8 * t)) (λ t. address_in (block_at_part v k) (slots_from k + 8 * t)) 0 (slot_count k)
    (λ t low. let s = slot_of k t is (omega (arith, low)) in by_map w k t s ∙ map s.number ∙ sym (by_map v k t s)))
    ∙ sym (slots_listed bytes (block_at_part v k) k)

-- two arrays of one map, whose blocks have the same places, have the same ranges
pub same_behind : (bytes : ℕ) (v w : Store) → ((i : ℕ) → map_of w i ≡ map_of v i) → ((n : ℕ) → place_of w n ≡ place_of v n) → behind_of bytes w ≡ behind_of bytes v
same_behind bytes v w map places = behind_same bytes v w (λ k is. places (number_of k)) (chunks_same bytes v w map)
