-- Addresses of chunks whose slots stand one behind another in a data block that is kept.
use Rattle.std.proofs.Common.{◌≡◌, ◌≢◌, ℕ, zero, suc, ◌+◌, ◌-◌, ◌*◌, ◌/◌, ◌%◌, ◌^◌, ◌<◌, ◌≤◌, true, false, cond, List, [], ◌∷◌, ◌++◌, length, take, get_or, Option, Some, None, Result, Ok, Err, inl, inr, refl, sym, ◌∙◌, ap, subst, arith}
use Rattle.std.specs.Prelude.{IfSome, OnOk}
use Rattle.std.specs.List.{AllByRecursion}
use Rattle.std.proofs.lemmas.Bool.{cases_Bool, cases_lt, eq-eqb, lt-ltb, le-ltb}
use Rattle.std.proofs.lemmas.List.{append_assoc, append-nil, length-append, length-take, take_all}
use Rattle.std.proofs.lemmas.Nat.{div-mul-add, mod-mul-add, mul-le, pow-add, pow_pos}
use Rattle.h5w_model.specs.Programs.{Prog, Kept, is_of, kept_bytes, others, used}
use Rattle.h5w_model.specs.Numbers.{undefined}
use Rattle.h5w_model.specs.Arrays.{EaibFields, SlotPlace, IsSlotPlace, super_block_of, slot_place_of, named_place, place_of, blocks_before, eadb_at, easb_at, slots_len}
use Rattle.h5w_model.specs.Datasets.{Described}
use Rattle.h5w_model.specs.Tables.{Reading, InPlace, in_array, address_behind, array_slot, secondary_slot, keys_across, needed, data_block, secondary_block, super_block_of_first}
use Rattle.h5w_model.specs.declared.cell.Place.TheVariants.{Index, Direct, Second}
use Rattle.h5w_model.specs.declared.refusal.ReadError.{ReadError}
use Rattle.h5w_model.proofs.ArrayGeometry.{super_block-slots, slot_place-stands, slot_place-super}
use Rattle.h5w_ea.proofs.PlaceLemmas.{slot_place_of-is, place_of-behind, named_place-direct, named_place-second}
use Rattle.h5w_lookup.specs.Ahead.{IsDataUsed, IsSecondUsed, IsAtHand, IsTaken, found_rest}
use Rattle.h5w_lookup.specs.Blocks.{GivesSlots, IsRead}
use Rattle.h5w_lookup.specs.Contents.{slots_in}
use Rattle.h5w_lookup.specs.Stores.{Keeps}
use Rattle.h5w_lookup.specs.declared.content.Content.{Content}
use Rattle.h5w_lookup.specs.Seeking.{store_rest, next_rest}
use Rattle.h5w_lookup.specs.Slots.{key_of, after_found}
use Rattle.h5w_lookup.specs.Unknown.{unknown_at}
use Rattle.h5w_lookup.specs.declared.wait.DataWait.{DataWait}
use Rattle.h5w_lookup.proofs.DescentLemmas.{slots_at, slots_push}
use Rattle.h5w_lookup.proofs.SeekLemmas.{data_gives, second_gives, seek_at}

-- ---- Uses of kept blocks, again

abbrev pub kept_block : ℕ → ℕ → ℕ → List ℕ → Kept
kept_block kind at n b = record { kind = kind; place = at; len = n; bytes = b }

abbrev pub IsApart : ℕ → ℕ → ℕ → List Kept → Type 0
IsApart kind at n ks = AllByRecursion (λ k. is_of kind at n k ≡ false) ks

pub apart_others : (kind at n : ℕ) (ks : List Kept) → IsApart kind at n (others kind at n ks)
apart_others kind p n [] = tt
apart_others kind p n (k ∷ ks) = elim (cases_Bool (is_of kind p n k)) [
  | inl t ↦ rw t (apart_others kind p n ks)
  | inr f ↦ rw f (f, apart_others kind p n ks)
]

pub apart_taken : (kind at n m : ℕ) (ks : List Kept) → IsApart kind at n ks → IsApart kind at n (take m ks)
apart_taken kind p n zero ks h = tt
apart_taken kind p n (suc m) [] h = tt
apart_taken kind p n (suc m) (k ∷ ks) h = (h.0, apart_taken kind p n m ks h.1)

pub apart_fewer : (kind at n sort place len : ℕ) (ks : List Kept) → IsApart kind at n ks → IsApart kind at n (others sort place len ks)
apart_fewer kind p n sort place len [] h = tt
apart_fewer kind p n sort place len (k ∷ ks) h = elim (cases_Bool (is_of sort place len k)) [
  | inl t ↦ rw t (apart_fewer kind p n sort place len ks h.1)
  | inr f ↦ rw f (h.0, apart_fewer kind p n sort place len ks h.1)
]

pub others_same : (kind at n : ℕ) (ks : List Kept) → IsApart kind at n ks → others kind at n ks ≡ ks
others_same kind p n [] h = refl
others_same kind p n (k ∷ ks) h = rw h.0 (ap (λ (ys : List Kept). k ∷ ys) (others_same kind p n ks h.1))

pub is_self : (kind at n : ℕ) (b : List ℕ) → is_of kind at n (kept_block kind at n b) ≡ true
is_self kind p n b = rw (eq-eqb kind kind refl, eq-eqb p p refl, eq-eqb n n refl) refl

take_again : (m : ℕ) (ks : List Kept) → take m (take m ks) ≡ take m ks
take_again m ks = let few = length-take m ks in take_all m (take m ks) (omega (arith, few))

-- a block that is the last used is kept
pub kept_used : (kind at n : ℕ) (b : List ℕ) (ks : List Kept) → kept_bytes kind at n (used 16 kind at n b ks) ≡ Some b
kept_used kind p n b ks = rw (is_self kind p n b) refl

-- and its use changes nothing
pub used_again : (kind at n : ℕ) (b : List ℕ) (ks : List Kept) → used 16 kind at n b ks ≡ used 16 kind at n b (used 16 kind at n b ks)
used_again kind p n b ks =
    let rest = others kind p n ks in
    let own = kept_block kind p n b in
    sym (ap (λ c. take 16 (own ∷ cond c (others kind p n (take 15 rest)) (own ∷ others kind p n (take 15 rest)))) (is_self kind p n b)
    ∙ ap (λ (ys : List Kept). own ∷ take 15 ys) (others_same kind p n (take 15 rest) (apart_taken kind p n 15 rest (apart_others kind p n ks)))
    ∙ ap (λ (ys : List Kept). own ∷ ys) (take_again 15 rest))

-- ---- A data block behind a secondary block, both used

abbrev second_used : ℕ → ℕ → List ℕ → List Kept → List Kept
second_used at n b ks = used 16 secondary_block at n b ks

abbrev data_used : ℕ → ℕ → List ℕ → List Kept → List Kept
data_used at n b ks = used 16 data_block at n b ks

-- the others
abbrev behind_both : ℕ → ℕ → ℕ → ℕ → List Kept → List Kept
behind_both at n place len ks = take 14 (others data_block place len (take 15 (others secondary_block at n ks)))

abbrev both_used : ℕ → ℕ → List ℕ → ℕ → ℕ → List ℕ → List Kept → List Kept
both_used at n b place len c ks = kept_block data_block place len c ∷ kept_block secondary_block at n b ∷ behind_both at n place len ks

apart_second : (at n place len : ℕ) (ks : List Kept) → IsApart secondary_block at n (behind_both at n place len ks)
apart_second p n place len ks =
    apart_taken secondary_block p n 14 (others data_block place len (take 15 (others secondary_block p n ks)))
    (apart_fewer secondary_block p n data_block place len (take 15 (others secondary_block p n ks))
    (apart_taken secondary_block p n 15 (others secondary_block p n ks) (apart_others secondary_block p n ks)))

apart_data : (at n place len : ℕ) (ks : List Kept) → IsApart data_block place len (behind_both at n place len ks)
apart_data p n place len ks =
    apart_taken data_block place len 14 (others data_block place len (take 15 (others secondary_block p n ks))) (apart_others data_block place len (take 15 (others secondary_block p n ks)))

-- the secondary block is used again
turned_are : (at n : ℕ) (b : List ℕ) (place len : ℕ) (c : List ℕ) (ks : List Kept)
    → second_used at n b (both_used at n b place len c ks) ≡ kept_block secondary_block at n b ∷ kept_block data_block place len c ∷ behind_both at n place len ks
turned_are p n b place len c ks =
    let rest = behind_both p n place len ks in
    let first = kept_block data_block place len c in
    let own = kept_block secondary_block p n b in
    ap (λ t. take 16 (own ∷ first ∷ cond t (others secondary_block p n rest) (own ∷ others secondary_block p n rest))) (is_self secondary_block p n b)
    ∙ ap (λ (ys : List Kept). own ∷ first ∷ take 14 ys) (others_same secondary_block p n rest (apart_second p n place len ks))
    ∙ ap (λ (ys : List Kept). own ∷ first ∷ ys) (take_again 14 (others data_block place len (take 15 (others secondary_block p n ks))))

-- and the data block behind it
back_are : (at n : ℕ) (b : List ℕ) (place len : ℕ) (c : List ℕ) (ks : List Kept)
    → data_used place len c (kept_block secondary_block at n b ∷ kept_block data_block place len c ∷ behind_both at n place len ks) ≡ both_used at n b place len c ks
back_are p n b place len c ks =
    let rest = behind_both p n place len ks in
    let own = kept_block data_block place len c in
    let first = kept_block secondary_block p n b in
    ap (λ t. take 16 (own ∷ first ∷ cond t (others data_block place len rest) (own ∷ others data_block place len rest))) (is_self data_block place len c)
    ∙ ap (λ (ys : List Kept). own ∷ first ∷ take 14 ys) (others_same data_block place len rest (apart_data p n place len ks))
    ∙ ap (λ (ys : List Kept). own ∷ first ∷ ys) (take_again 14 (others data_block place len (take 15 (others secondary_block p n ks))))

pub second_stays : (at n : ℕ) (b : List ℕ) (place len : ℕ) (c : List ℕ) (ks : List Kept) → kept_bytes secondary_block at n (data_used place len c (second_used at n b ks)) ≡ Some b
second_stays p n b place len c ks = rw (is_self secondary_block p n b) refl

pub data_stays : (at n : ℕ) (b : List ℕ) (place len : ℕ) (c : List ℕ) (ks : List Kept)
    → kept_bytes data_block place len (second_used at n b (data_used place len c (second_used at n b ks))) ≡ Some c
data_stays p n b place len c ks = ap (kept_bytes data_block place len) (turned_are p n b place len c ks) ∙ rw (is_self data_block place len c) refl

pub both_again : (at n : ℕ) (b : List ℕ) (place len : ℕ) (c : List ℕ) (ks : List Kept)
    → data_used place len c (second_used at n b ks) ≡ data_used place len c (second_used at n b (data_used place len c (second_used at n b ks)))
both_again p n b place len c ks = sym (ap (data_used place len c) (turned_are p n b place len c ks) ∙ back_are p n b place len c ks)

-- ---- Slots one behind another

-- a place is that of the slot whose number it gives
slot_place_is : (j : ℕ) (p : SlotPlace) → IsSlotPlace j p → p.sblock ≤ 12 → slot_place_of j ≡ p
slot_place_is j p is few =
    let s = p.sblock in
    let slots = (super_block_of s).slots in
    let start = (super_block_of s).start in
    let power : ℕ = 2 ^ s in
    let some = pow_pos s in
    let top : 2 ^ s * 2 ^ (12 - s) ≡ 2 ^ 12 = sym (pow-add 2 s (12 - s)) ∙ (let e : s + (12 - s) ≡ 12 = omega arith in ap (λ k. 2 ^ k) e) in
    let below : 2 ^ s * 1 ≤ 2 ^ s * 2 ^ (12 - s) = mul-le (2 ^ s) 1 (2 ^ s) (2 ^ (12 - s)) (omega arith) (let more = pow_pos (12 - s) in omega arith) in
    let whole = super_block-slots s in
    let step : (p.block + 1) * slots ≤ (super_block_of s).blocks * slots = mul-le (p.block + 1) slots (super_block_of s).blocks slots (let inside = is.block_inside in omega arith) (omega arith) in
    let one : (p.block + 1) * slots ≡ p.block * slots + slots = grind arith in
    let number = is.number in
    let low = is.slot_inside in
    let ends : p.block * slots + p.slot < 16 * 2 ^ s = omega (arith, step, one, whole, low) in
    let from : 2 ^ s ≤ j / 16 + 1 = omega (arith, some, number) in
    let to : j / 16 + 1 < 2 * 2 ^ s = omega (arith, some, ends, number) in
    let small : j < 2 ^ 64 = omega (arith, some, ends, number, top, below) in
    let less : j - start ≡ p.block * slots + p.slot = omega (arith, number) in
    slot_place_of-is j s small from to
    ∙ ap (λ r. let q : SlotPlace = record { sblock = s; block = r / slots; slot = r % slots } in q) less
    ∙ ap (λ b. let q : SlotPlace = record { sblock = s; block = b; slot = (p.block * slots + p.slot) % slots } in q) (div-mul-add p.block slots p.slot low)
    ∙ ap (λ t. let q : SlotPlace = record { sblock = s; block = p.block; slot = t } in q) (mod-mul-add p.block slots p.slot low)

-- so many slots behind it, in the same data block
abbrev moved : SlotPlace → ℕ → SlotPlace
moved p k = record { sblock = p.sblock; block = p.block; slot = p.slot + k }

place_moves : (i k : ℕ) → 4 ≤ i → i < 131060 → (slot_place_of (i - 4)).slot + k < (super_block_of (slot_place_of (i - 4)).sblock).slots → place_of (i + k) ≡ named_place (moved (slot_place_of (i - 4)) k)
place_moves i k far few inside =
    let p = slot_place_of (i - 4) in
    let is = slot_place-stands (i - 4) (omega arith) in
    let number = is.number in
    let there : IsSlotPlace (i - 4 + k) (moved p k) = record { number = omega (arith, number); block_inside = is.block_inside; slot_inside = inside } in
    let behind : i + k ≡ i - 4 + k + 4 = omega arith in
    place_of-behind (i + k) (i - 4 + k) behind
    ∙ ap named_place (slot_place_is (i - 4 + k) (moved p k) there (slot_place-super (i - 4) (omega arith)))

-- the super block of a data block that the index block names
first_super : (s b : ℕ) → s < 4 → b < (super_block_of s).blocks → super_block_of_first (blocks_before s + b) ≡ s
first_super zero zero h k = refl
first_super zero (suc b) h k = absurd (omega arith)
first_super (suc zero) zero h k = refl
first_super (suc zero) (suc b) h k = absurd (omega arith)
first_super (suc (suc zero)) zero h k = refl
first_super (suc (suc zero)) (suc zero) h k = refl
first_super (suc (suc zero)) (suc (suc b)) h k = absurd (omega arith)
first_super (suc (suc (suc zero))) zero h k = refl
first_super (suc (suc (suc zero))) (suc zero) h k = refl
first_super (suc (suc (suc zero))) (suc (suc b)) h k = absurd (omega arith)
first_super (suc (suc (suc (suc s)))) b h k = absurd (omega arith)

-- what is left is a direct place, and the one so many slots behind it
record IsDirect (i block slot : ℕ) : Type 0 where
  far : 4 ≤ i
  before : (slot_place_of (i - 4)).sblock < 4
  block_is : block ≡ blocks_before (slot_place_of (i - 4)).sblock + (slot_place_of (i - 4)).block
  slot_is : slot ≡ (slot_place_of (i - 4)).slot

record IsSecond (i sblock block slot : ℕ) : Type 0 where
  far : 4 ≤ i
  before : 4 ≤ (slot_place_of (i - 4)).sblock
  sblock_is : sblock ≡ (slot_place_of (i - 4)).sblock
  block_is : block ≡ (slot_place_of (i - 4)).block
  slot_is : slot ≡ (slot_place_of (i - 4)).slot

is_direct : (i block slot : ℕ) → place_of i ≡ Direct block slot → IsDirect i block slot
is_direct i block slot h =
    let p = slot_place_of (i - 4) in
    elim (cases_lt i 4) [
      | inl low ↦ let z : Index i ≡ Direct block slot = rw (lt-ltb i 4 low) at h in absurd cc
      | inr far ↦
          let named : named_place p ≡ Direct block slot = rw (le-ltb i 4 far) at h in
          elim (cases_lt p.sblock 4) [
            | inl before ↦
                let same : Direct (blocks_before p.sblock + p.block) p.slot ≡ Direct block slot = sym (named_place-direct p before) ∙ named in
                record { far = far; before = before; block_is = cc; slot_is = cc }
            | inr behind ↦ let z : Second p.sblock p.block p.slot ≡ Direct block slot = sym (named_place-second p behind) ∙ named in absurd cc
          ]
    ]

is_second : (i sblock block slot : ℕ) → place_of i ≡ Second sblock block slot → IsSecond i sblock block slot
is_second i sblock block slot h =
    let p = slot_place_of (i - 4) in
    elim (cases_lt i 4) [
      | inl low ↦ let z : Index i ≡ Second sblock block slot = rw (lt-ltb i 4 low) at h in absurd cc
      | inr far ↦
          let named : named_place p ≡ Second sblock block slot = rw (le-ltb i 4 far) at h in
          elim (cases_lt p.sblock 4) [
            | inl before ↦ let z : Direct (blocks_before p.sblock + p.block) p.slot ≡ Second sblock block slot = sym (named_place-direct p before) ∙ named in absurd cc
            | inr behind ↦
                let same : Second p.sblock p.block p.slot ≡ Second sblock block slot = sym (named_place-second p behind) ∙ named in
                record { far = far; before = behind; sblock_is = cc; block_is = cc; slot_is = cc }
          ]
    ]

direct_moves : (i block slot k : ℕ) → i < 131060 → place_of i ≡ Direct block slot → slot + k < (super_block_of (super_block_of_first block)).slots → place_of (i + k) ≡ Direct block (slot + k)
direct_moves i block slot k few h inside =
    let p = slot_place_of (i - 4) in
    let d = is_direct i block slot h in
    let stands = slot_place-stands (i - 4) (omega arith) in
    let first : super_block_of_first block ≡ p.sblock = ap super_block_of_first d.block_is ∙ first_super p.sblock p.block d.before stands.block_inside in
    let low : p.slot + k < (super_block_of p.sblock).slots = rw (first, d.slot_is) at inside in
    place_moves i k d.far few low
    ∙ named_place-direct (moved p k) d.before
    ∙ ap (λ b. Direct b (p.slot + k)) (sym d.block_is)
    ∙ ap (λ s. Direct block (s + k)) (sym d.slot_is)

second_moves : (i sblock block slot k : ℕ) → i < 131060 → place_of i ≡ Second sblock block slot → slot + k < (super_block_of sblock).slots → place_of (i + k) ≡ Second sblock block (slot + k)
second_moves i sblock block slot k few h inside =
    let p = slot_place_of (i - 4) in
    let d = is_second i sblock block slot h in
    let low : p.slot + k < (super_block_of p.sblock).slots = rw (d.sblock_is, d.slot_is) at inside in
    place_moves i k d.far few low
    ∙ named_place-second (moved p k) d.before
    ∙ ap (λ s. Second s p.block (p.slot + k)) (sym d.sblock_is)
    ∙ ap (λ b. Second sblock b (p.slot + k)) (sym d.block_is)
    ∙ ap (λ s. Second sblock block (s + k)) (sym d.slot_is)

-- ---- Answers

pub if_some : {X : Type 0} {P Q : X → Type 0} (o : Option X) → IfSome o P → ((x : X) → P x → Q x) → IfSome o Q
if_some None h f = tt
if_some (Some x) h f = f x h

pub on_ok : {X E P Q : Type 0} (r : Result X E) → OnOk r P → (P → Q) → OnOk r Q
on_ok (Ok x) h f = f h
on_ok (Err e) h f = tt

-- ---- At hand

pub is_data_used : {content : Content} (at n slot len : ℕ) (old new : List Kept) (w : DataWait) → w.at ≡ at → w.n ≡ n → w.slot ≡ slot → at ≢ undefined → len ≡ slots_len n → Keeps data_block at len old content
    → ((bytes : List ℕ) → kept_bytes data_block at len old ≡ Some bytes → new ≡ used 16 data_block at len bytes old) → IsDataUsed at n slot old new w
is_data_used {content} p n slot len old new w at_is n_is slot_is there e k touched =
    let read : IsRead data_block p (slots_len n) k.bytes content = rw e at k.read in
    record {
      at_is = at_is;
      n_is = n_is;
      slot_is = slot_is;
      there = there;
      bytes = k.bytes;
      slots = slots_in content;
      is_kept = rw e at k.is_kept;
      gives = read.of_data n refl refl;
      then_used = subst (λ m. new ≡ used 16 data_block p m k.bytes old) e (touched k.bytes k.is_kept);
    }

pub direct_hand : (e : EaibFields) (i block slot : ℕ) (old new : List Kept) (w : DataWait) → i < 131060 → place_of i ≡ Direct block slot
    → IsDataUsed (get_or e.first block undefined) (super_block_of (super_block_of_first block)).slots slot old new w → IsAtHand new e i w
direct_hand e i block slot old new w few is u =
    let p = get_or e.first block undefined in
    let n = (super_block_of (super_block_of_first block)).slots in
    let len = slots_len n in
    let there : kept_bytes data_block p len new ≡ Some u.bytes = ap (kept_bytes data_block p len) u.then_used ∙ kept_used data_block p len u.bytes old in
    let again : new ≡ used 16 data_block p len u.bytes new = u.then_used ∙ used_again data_block p len u.bytes old ∙ ap (used 16 data_block p len u.bytes) (sym u.then_used) in
    record {
      bytes = u.bytes;
      is_kept = rw (u.at_is, u.n_is) there;
      stand = λ slots gives k inside next.
          let given : GivesSlots slots (eadb_at u.bytes p n) = rw (u.at_is, u.n_is) at gives in
          let low : slot + k < n = rw (u.slot_is, u.n_is) at inside in
          rw u.slot_is (seek_at new e (i + k) (Direct block (slot + k)) next (direct_moves i block slot k few is low)
          ∙ sym (data_gives new new p n (slot + k) u.bytes slots next u.there there given again));
    }

pub direct_same : (e : EaibFields) (i block slot : ℕ) (old new : List Kept) (w : DataWait) (next : ℕ → Prog (Result Reading ReadError)) → place_of i ≡ Direct block slot
    → IsDataUsed (get_or e.first block undefined) (super_block_of (super_block_of_first block)).slots slot old new w → store_rest new (array_slot e i) next ≡ store_rest old (array_slot e i) next
direct_same e i block slot old new w next is u =
    let p = get_or e.first block undefined in
    let n = (super_block_of (super_block_of_first block)).slots in
    let len = slots_len n in
    let there : kept_bytes data_block p len new ≡ Some u.bytes = ap (kept_bytes data_block p len) u.then_used ∙ kept_used data_block p len u.bytes old in
    let again : new ≡ used 16 data_block p len u.bytes new = u.then_used ∙ used_again data_block p len u.bytes old ∙ ap (used 16 data_block p len u.bytes) (sym u.then_used) in
    seek_at new e i (Direct block slot) next is
    ∙ sym (data_gives new new p n slot u.bytes u.slots next u.there there u.gives again)
    ∙ data_gives old new p n slot u.bytes u.slots next u.there u.is_kept u.gives u.then_used
    ∙ sym (seek_at old e i (Direct block slot) next is)

pub direct_both : (e : EaibFields) (i block slot : ℕ) (old new : List Kept) (o : Option DataWait) → place_of i ≡ Direct block slot → (o ≡ None → new ≡ old)
    → IfSome o (IsDataUsed (get_or e.first block undefined) (super_block_of (super_block_of_first block)).slots slot old new)
    → (next : ℕ → Prog (Result Reading ReadError)) → store_rest new (array_slot e i) next ≡ store_rest old (array_slot e i) next
direct_both e i block slot old new None is none some next = ap (λ ks. store_rest ks (array_slot e i) next) (none refl)
direct_both e i block slot old new (Some w) is none some next = direct_same e i block slot old new w next is some

-- behind a secondary block: that is used again, and then the data block is
record IsSettled (at sblock block slot : ℕ) (old new : List Kept) (w : DataWait) (u : IsSecondUsed at sblock block slot old new w) : Type 0 where
  second_there : kept_bytes secondary_block at (slots_len (super_block_of sblock).blocks) new ≡ Some u.bytes
  data_there : kept_bytes data_block (get_or u.slots block undefined) (slots_len (super_block_of sblock).slots) (used 16 secondary_block at (slots_len (super_block_of sblock).blocks) u.bytes new) ≡ Some u.last.bytes
  data_kept : kept_bytes data_block (get_or u.slots block undefined) (slots_len (super_block_of sblock).slots) new ≡ Some u.last.bytes
  again : new ≡ used 16 data_block (get_or u.slots block undefined) (slots_len (super_block_of sblock).slots) u.last.bytes (used 16 secondary_block at (slots_len (super_block_of sblock).blocks) u.bytes new)

settled : (at sblock block slot : ℕ) (old new : List Kept) (w : DataWait) (u : IsSecondUsed at sblock block slot old new w) → IsSettled at sblock block slot old new w u
settled p sblock block slot old new w u =
    let m = slots_len (super_block_of sblock).blocks in
    let q = get_or u.slots block undefined in
    let len = slots_len (super_block_of sblock).slots in
    let b = u.bytes in
    let c = u.last.bytes in
    let is = u.last.then_used in
    record {
      second_there = ap (kept_bytes secondary_block p m) is ∙ second_stays p m b q len c old;
      data_there = ap (λ ks. kept_bytes data_block q len (used 16 secondary_block p m b ks)) is ∙ data_stays p m b q len c old;
      data_kept = ap (kept_bytes data_block q len) is ∙ kept_used data_block q len c (used 16 secondary_block p m b old);
      again = is ∙ both_again p m b q len c old ∙ ap (λ ks. used 16 data_block q len c (used 16 secondary_block p m b ks)) (sym is);
    }

-- a slot of that data block
second_slot : (at sblock block slot : ℕ) (old new : List Kept) (w : DataWait) (u : IsSecondUsed at sblock block slot old new w) (slots : List ℕ) (t : ℕ) (next : ℕ → Prog (Result Reading ReadError))
    → GivesSlots slots (eadb_at u.last.bytes (get_or u.slots block undefined) (super_block_of sblock).slots) → store_rest new (secondary_slot at sblock block t) next ≡ next_rest new next (get_or slots t undefined)
second_slot p sblock block slot old new w u slots t next gives =
    let s = settled p sblock block slot old new w u in
    let mid = used 16 secondary_block p (slots_len (super_block_of sblock).blocks) u.bytes new in
    sym (data_gives mid new (get_or u.slots block undefined) (super_block_of sblock).slots t u.last.bytes slots next u.last.there s.data_there gives s.again
    ∙ second_gives new mid p sblock block t u.bytes u.slots next u.there s.second_there u.gives refl)

pub second_hand : (e : EaibFields) (i sblock block slot : ℕ) (old new : List Kept) (w : DataWait) → i < 131060 → place_of i ≡ Second sblock block slot
    → IsSecondUsed (get_or e.second (sblock - 4) undefined) sblock block slot old new w → IsAtHand new e i w
second_hand e i sblock block slot old new w few is u =
    let p = get_or e.second (sblock - 4) undefined in
    let q = get_or u.slots block undefined in
    let n = (super_block_of sblock).slots in
    let s = settled p sblock block slot old new w u in
    record {
      bytes = u.last.bytes;
      is_kept = rw (u.last.at_is, u.last.n_is) s.data_kept;
      stand = λ slots gives k inside next.
          let given : GivesSlots slots (eadb_at u.last.bytes q n) = rw (u.last.at_is, u.last.n_is) at gives in
          let low : slot + k < n = rw (u.last.slot_is, u.last.n_is) at inside in
          rw u.last.slot_is (seek_at new e (i + k) (Second sblock block (slot + k)) next (second_moves i sblock block slot k few is low)
          ∙ second_slot p sblock block slot old new w u slots (slot + k) next given);
    }

pub second_same : (e : EaibFields) (i sblock block slot : ℕ) (old new : List Kept) (w : DataWait) (next : ℕ → Prog (Result Reading ReadError)) → place_of i ≡ Second sblock block slot
    → IsSecondUsed (get_or e.second (sblock - 4) undefined) sblock block slot old new w → store_rest new (array_slot e i) next ≡ store_rest old (array_slot e i) next
second_same e i sblock block slot old new w next is u =
    let p = get_or e.second (sblock - 4) undefined in
    let mid = used 16 secondary_block p (slots_len (super_block_of sblock).blocks) u.bytes old in
    let n = (super_block_of sblock).slots in
    seek_at new e i (Second sblock block slot) next is
    ∙ second_slot p sblock block slot old new w u u.last.slots slot next u.last.gives
    ∙ data_gives mid new (get_or u.slots block undefined) n slot u.last.bytes u.last.slots next u.last.there u.last.is_kept u.last.gives u.last.then_used
    ∙ second_gives old mid p sblock block slot u.bytes u.slots next u.there u.is_kept u.gives refl
    ∙ sym (seek_at old e i (Second sblock block slot) next is)

pub second_both : (e : EaibFields) (i sblock block slot : ℕ) (old new : List Kept) (o : Option DataWait) → place_of i ≡ Second sblock block slot
    → (o ≡ None → (next : ℕ → Prog (Result Reading ReadError)) → store_rest new (secondary_slot (get_or e.second (sblock - 4) undefined) sblock block slot) next ≡ store_rest old (secondary_slot (get_or e.second (sblock - 4) undefined) sblock block slot) next)
    → IfSome o (IsSecondUsed (get_or e.second (sblock - 4) undefined) sblock block slot old new)
    → (next : ℕ → Prog (Result Reading ReadError)) → store_rest new (array_slot e i) next ≡ store_rest old (array_slot e i) next
second_both e i sblock block slot old new None is none some next =
    seek_at new e i (Second sblock block slot) next is ∙ none refl next ∙ sym (seek_at old e i (Second sblock block slot) next is)
second_both e i sblock block slot old new (Some w) is none some next = second_same e i sblock block slot old new w next is some

-- a secondary block alone was used
pub second_alone : (at sblock block slot : ℕ) (old new : List Kept) (b slots : List ℕ) (next : ℕ → Prog (Result Reading ReadError)) → at ≢ undefined
    → kept_bytes secondary_block at (slots_len (super_block_of sblock).blocks) old ≡ Some b → GivesSlots slots (easb_at b at (super_block_of sblock).blocks)
    → new ≡ used 16 secondary_block at (slots_len (super_block_of sblock).blocks) b old → store_rest new (secondary_slot at sblock block slot) next ≡ store_rest old (secondary_slot at sblock block slot) next
second_alone p sblock block slot old new b slots next there some gives is =
    let len = slots_len (super_block_of sblock).blocks in
    let kept_new : kept_bytes secondary_block p len new ≡ Some b = ap (kept_bytes secondary_block p len) is ∙ kept_used secondary_block p len b old in
    let again : new ≡ used 16 secondary_block p len b new = is ∙ used_again secondary_block p len b old ∙ ap (used 16 secondary_block p len b) (sym is) in
    sym (second_gives new new p sblock block slot b slots next there kept_new gives again)
    ∙ second_gives old new p sblock block slot b slots next there some gives is

-- ---- Ahead

-- addresses that stand one behind another are those of the next chunks
slots_ahead : (at : ℕ) (known : List ℕ) (d : Described) (p : InPlace) (ks : List Kept) (across : ℕ) (r : List ℕ) (i : ℕ) (xs : List ℕ) → across ≡ keys_across d → ((k : ℕ) → unknown_at known (length xs + k) ≡ i + k)
    → i + length r ≤ needed d → ((k : ℕ) → k < length r → (next : ℕ → Prog (Result Reading ReadError)) → store_rest ks (address_behind p (key_of across (i + k))) next ≡ next_rest ks next (get_or r k undefined))
    → found_rest at known d p ks (xs ++ r) ≡ found_rest at known d p ks xs
slots_ahead place known d p ks across [] i xs wide rises few stand = ap (found_rest place known d p ks) (append-nil xs)
slots_ahead place known d p ks across (a ∷ r) i xs wide rises few stand =
    let last = after_found place known d p xs in
    let same : i + 0 ≡ i = omega arith in
    let front : length xs + 0 ≡ length xs = omega arith in
    let is : i ≡ unknown_at known (length xs) = sym same ∙ sym (rises 0) ∙ ap (unknown_at known) front in
    let count = length-append xs (a ∷ []) in
    let near : (k : ℕ) → unknown_at known (length (xs ++ a ∷ []) + k) ≡ i + 1 + k = λ k.
    let one : length (xs ++ a ∷ []) + k ≡ length xs + suc k = omega (arith, count) in
    let end : i + suc k ≡ i + 1 + k = omega arith in
    ap (unknown_at known) one ∙ rises (suc k) ∙ end in
    let behind : (k : ℕ) → k < length r → (next : ℕ → Prog (Result Reading ReadError)) → store_rest ks (address_behind p (key_of across (i + 1 + k))) next ≡ next_rest ks next (get_or r k undefined) = λ k h next.
    let one : i + 1 + k ≡ i + suc k = omega arith in
    ap (λ n. store_rest ks (address_behind p (key_of across n)) next) one ∙ stand (suc k) (omega arith) next in
    ap (found_rest place known d p ks) (sym (append_assoc xs (a ∷ []) r))
    ∙ slots_ahead place known d p ks across r (i + 1) (xs ++ a ∷ []) wide near (omega arith) behind
    ∙ slots_push place known d p ks a xs (xs ++ a ∷ []) refl
    ∙ sym (stand 0 (omega arith) last)
    ∙ ap (λ n. store_rest ks (address_behind p (key_of across n)) last) same
    ∙ slots_at place known d p ks across i xs wide is (omega arith)

-- of an array the keys are the chunks' numbers
array_key : (e : EaibFields) (ks : List Kept) (across i : ℕ) (next : ℕ → Prog (Result Reading ReadError)) → across ≡ 1 → store_rest ks (address_behind (in_array e) (key_of across i)) next ≡ store_rest ks (array_slot e i) next
array_key e ks across i next one = let same : i / 1 ≡ i = omega arith in ap (λ n. store_rest ks (array_slot e (i / n)) next) one ∙ ap (λ n. store_rest ks (array_slot e n) next) same

-- the kept blocks on the way to the next chunk were used
pub ahead_same : (at : ℕ) (known : List ℕ) (d : Described) (e : EaibFields) (old new : List Kept) (across i : ℕ) (xs : List ℕ) → across ≡ keys_across d → across ≡ 1 → i ≡ unknown_at known (length xs) → i < needed d
    → ((next : ℕ → Prog (Result Reading ReadError)) → store_rest new (array_slot e i) next ≡ store_rest old (array_slot e i) next) → found_rest at known d (in_array e) new xs ≡ found_rest at known d (in_array e) old xs
ahead_same place known d e old new across i xs wide one is less same =
    let next = after_found place known d (in_array e) xs in
    sym (slots_at place known d (in_array e) new across i xs wide is less)
    ∙ array_key e new across i next one
    ∙ same next
    ∙ sym (array_key e old across i next one)
    ∙ slots_at place known d (in_array e) old across i xs wide is less

-- and addresses were taken behind it
pub ahead_more : (at : ℕ) (known : List ℕ) (d : Described) (e : EaibFields) (ks : List Kept) (across i most : ℕ) (xs ys : List ℕ) → across ≡ keys_across d → across ≡ 1 → i ≡ unknown_at known (length xs)
    → ((k : ℕ) → unknown_at known (length xs + k) ≡ unknown_at known (length xs) + k) → i + most ≤ needed d → IsTaken ks e i most xs ys → found_rest at known d (in_array e) ks ys ≡ found_rest at known d (in_array e) ks xs
ahead_more place known d e ks across i most xs ys wide one is rises few t =
    let count = t.few in
    ap (found_rest place known d (in_array e) ks) t.items
    ∙ slots_ahead place known d (in_array e) ks across t.more i xs wide (λ k. rises k ∙ ap (λ n. n + k) (sym is)) (omega (arith, count, few))
    (λ k h next. array_key e ks across (i + k) next one ∙ t.stand k h next)
