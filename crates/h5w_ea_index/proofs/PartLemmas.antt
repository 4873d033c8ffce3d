-- The table of an array's blocks: numbers, lengths, and which block names which.
use Rattle.std.proofs.Common.{◌≡◌, ◌⊎◌, inl, inr, ℕ, zero, suc, ◌+◌, ◌-◌, ◌*◌, ◌<◌, ◌≤◌, [], ◌∷◌, ◌++◌, length, get_or, true, false, refl, sym, ap, subst, ◌∙◌, arith, length-append}
use Rattle.std.proofs.lemmas.List.FromFn.{length-range_with_len, get_or-range_with_len}
use Rattle.std.proofs.lemmas.List.Elements.{All-nil, All-cons, All-map, All-append, All-from_recursion}
use Rattle.std.proofs.lemmas.Bool.{cases_lt}
use Rattle.std.proofs.lemmas.Bool.Decides.{nat_tests}
use Rattle.std.specs.Prelude.{nat_lt, cond}
use Rattle.std.specs.List.{All, range_with_len}
use Rattle.h5w_model.specs.Numbers.{le}
use Rattle.h5w_model.specs.Arrays.{super_block_of, slot_place_of, IsSlotPlace}
use Rattle.h5w_model.proofs.NumberLemmas.{length-le}
use Rattle.h5w_model.proofs.ArrayGeometry.{slot_place-stands, slot_place-super}
use Rattle.h5w_array_laws.specs.Parts.{Part, data_of, secondary_of, index_block, header, IsPart, number_of, length_of, stays_in_place, children, first_parts, second_parts, names_from, parent, head_of, sign_of, offset_of, slot_count, slots_from, holder, holder_of, slot_offset}
use Rattle.h5w_array_laws.proofs.FoundLemmas.{count_blocks}

-- ---- Numbers

pub blocks_few : (s : ℕ) → s ≤ 12 → (super_block_of s).blocks ≤ 64
blocks_few zero h = omega arith
blocks_few (suc zero) h = omega arith
blocks_few (suc (suc zero)) h = omega arith
blocks_few (suc (suc (suc zero))) h = omega arith
blocks_few (suc (suc (suc (suc zero)))) h = omega arith
blocks_few (suc (suc (suc (suc (suc zero))))) h = omega arith
blocks_few (suc (suc (suc (suc (suc (suc zero)))))) h = omega arith
blocks_few (suc (suc (suc (suc (suc (suc (suc zero))))))) h = omega arith
blocks_few (suc (suc (suc (suc (suc (suc (suc (suc zero)))))))) h = omega arith
blocks_few (suc (suc (suc (suc (suc (suc (suc (suc (suc zero))))))))) h = omega arith
blocks_few (suc (suc (suc (suc (suc (suc (suc (suc (suc (suc zero)))))))))) h = omega arith
blocks_few (suc (suc (suc (suc (suc (suc (suc (suc (suc (suc (suc zero))))))))))) h = omega arith
blocks_few (suc (suc (suc (suc (suc (suc (suc (suc (suc (suc (suc (suc zero)))))))))))) h = omega arith
blocks_few (suc (suc (suc (suc (suc (suc (suc (suc (suc (suc (suc (suc (suc s))))))))))))) h = absurd (omega arith)

pub number_inside : (k : Part) → IsPart k → number_of k < 847
number_inside (data_of s b) p = let few = blocks_few s p.0 in let lt = p.1 in let le = p.0 in omega arith
number_inside (secondary_of s) p = let le = p.1 in omega arith
number_inside index_block p = omega arith
number_inside header p = omega arith

same_data : (s b r c : ℕ) → s ≡ r → b ≡ c → data_of s b ≡ data_of r c
same_data s b r c e f = λ i. data_of (e i) (f i)

pub number_decides : (k m : Part) → IsPart k → IsPart m → number_of k ≡ number_of m → k ≡ m
number_decides (data_of s b) (data_of r c) p q e = let x = blocks_few s p.0 in let y = blocks_few r q.0 in let u = p.1 in let v = q.1 in same_data s b r c (omega arith) (omega arith)
number_decides (data_of s b) (secondary_of r) p q e = let x = blocks_few s p.0 in let u = p.1 in absurd (omega arith)
number_decides (data_of s b) index_block p q e = let x = blocks_few s p.0 in let u = p.1 in let l = p.0 in absurd (omega arith)
number_decides (data_of s b) header p q e = let x = blocks_few s p.0 in let u = p.1 in let l = p.0 in absurd (omega arith)
number_decides (secondary_of s) (data_of r c) p q e = let y = blocks_few r q.0 in let v = q.1 in absurd (omega arith)
number_decides (secondary_of s) (secondary_of r) p q e = let h : s ≡ r = omega arith in ap secondary_of h
number_decides (secondary_of s) index_block p q e = let l = p.1 in absurd (omega arith)
number_decides (secondary_of s) header p q e = let l = p.1 in absurd (omega arith)
number_decides index_block (data_of r c) p q e = let y = blocks_few r q.0 in let v = q.1 in let l = q.0 in absurd (omega arith)
number_decides index_block (secondary_of r) p q e = let l = q.1 in absurd (omega arith)
number_decides index_block index_block p q e = refl
number_decides index_block header p q e = absurd (omega arith)
number_decides header (data_of r c) p q e = let y = blocks_few r q.0 in let v = q.1 in let l = q.0 in absurd (omega arith)
number_decides header (secondary_of r) p q e = let l = q.1 in absurd (omega arith)
number_decides header index_block p q e = absurd (omega arith)
number_decides header header p q e = refl

-- blocks in place have the last turns
pub copies_first : (k : Part) → IsPart k → stays_in_place k ≡ false → number_of k < 845
copies_first (data_of s b) p e = let few = blocks_few s p.0 in let lt = p.1 in let le = p.0 in omega arith
copies_first (secondary_of s) p e = let le = p.1 in omega arith
copies_first index_block p e = absurd (cc)
copies_first header p e = absurd (cc)

-- ---- Lengths

-- the addresses of the blocks that it names lie in front of its sum
pub names_fit : (k : Part) → IsPart k → names_from k + 8 * length (children k) + 4 ≤ length_of k
names_fit (data_of s b) p = omega arith
names_fit (secondary_of s) p = let l = count_blocks s in omega arith
names_fit index_block p = omega arith
names_fit header p = omega arith

pub slots_fit : (k : Part) → IsPart k → slots_from k + 8 * slot_count k + 4 ≤ length_of k
slots_fit (data_of s b) p = omega arith
slots_fit (secondary_of s) p = omega arith
slots_fit index_block p = omega arith
slots_fit header p = omega arith

-- slots and addresses of blocks are apart
pub slots_apart : (k : Part) → (slots_from k + 8 * slot_count k ≤ names_from k) ⊎ (names_from k + 8 * length (children k) ≤ slots_from k)
slots_apart (data_of s b) = inr (omega arith)
slots_apart (secondary_of s) = inl (omega arith)
slots_apart index_block = inl (omega arith)
slots_apart header = inl (omega arith)

framed : (at v : ℕ) (a b c d : ℕ) → length (a ∷ b ∷ c ∷ d ∷ 0 ∷ 0 ∷ le 8 at ++ le 4 v) ≡ 18
framed at v a b c d = let e = length-append (le 8 at) (le 4 v) in let f = length-le 8 at in let g = length-le 4 v in omega arith

pub head_fits : (at : ℕ) (k : Part) → (length (head_of at k) ≤ names_from k) × (length (head_of at k) ≤ slots_from k)
head_fits at (data_of s b) = let f : length (head_of at (data_of s b)) ≡ 18 = framed at (offset_of (data_of s b)) 69 65 68 66 in (omega arith, omega arith)
head_fits at (secondary_of s) = let f : length (head_of at (secondary_of s)) ≡ 18 = framed at (offset_of (secondary_of s)) 69 65 83 66 in (omega arith, omega arith)
head_fits at index_block = let e = length-le 8 at in (omega arith, omega arith)
head_fits at header = (omega arith, omega arith)

pub sign_fits : (k : Part) → length (sign_of k) ≤ slots_from k
sign_fits (data_of s b) = omega arith
sign_fits (secondary_of s) = omega arith
sign_fits index_block = omega arith
sign_fits header = omega arith

-- ---- Which block names which

pub part_parent : (k : Part) → IsPart k → IsPart (parent k)
part_parent (data_of s b) p =
    elim (cases_lt s 4) [
      | inl lt ↦ let e : nat_lt s 4 ≡ true = grind (arith, nat_tests) in subst (λ t. IsPart (cond t index_block (secondary_of s))) (sym e) tt
      | inr ge ↦ let e : nat_lt s 4 ≡ false = grind (arith, nat_tests) in subst (λ t. IsPart (cond t index_block (secondary_of s))) (sym e) (ge, p.0)
    ]
part_parent (secondary_of s) p = tt
part_parent index_block p = tt
part_parent header p = tt

-- a child is a block of the array, and its parent names it
pub record IsChild (k c : Part) : Type 0 where
  pub part : IsPart c
  pub parent : parent c ≡ k
  pub other : number_of c < number_of k

first_child : (s b : ℕ) → s < 4 → b < (super_block_of s).blocks → IsChild index_block (data_of s b)
first_child s b h lt =
    let e : nat_lt s 4 ≡ true = grind (arith, nat_tests) in
    let p : IsPart (data_of s b) = (let le : s ≤ 12 = omega arith in le, lt) in
    record { part = p; parent = ap (λ t. cond t index_block (secondary_of s)) e; other = copies_first (data_of s b) p refl }

data_child : (s b : ℕ) → 4 ≤ s → s ≤ 12 → b < (super_block_of s).blocks → IsChild (secondary_of s) (data_of s b)
data_child s b h le lt =
    let e : nat_lt s 4 ≡ false = grind (arith, nat_tests) in
    let few = blocks_few s le in
    record { part = (le, lt); parent = ap (λ t. cond t index_block (secondary_of s)) e; other = omega arith }

second_child : (s : ℕ) → 4 ≤ s → s ≤ 12 → IsChild index_block (secondary_of s)
second_child s h le = record { part = (h, le); parent = refl; other = omega arith }

pub All-range : (P : ℕ → Type 0) (a n : ℕ) → ((i : ℕ) → a ≤ i → i < a + n → P i) → All P (range_with_len a n)
All-range P a n h k d lt =
    let l = length-range_with_len a n in
    let e : get_or (range_with_len a n) k d ≡ a + k = get_or-range_with_len a n k d (omega arith) in
    subst P (sym e) (h (a + k) (omega arith) (omega arith))

All-first : All (IsChild index_block) first_parts
All-first =
    All-from_recursion (IsChild index_block) first_parts
    (first_child 0 0 (omega arith) (omega arith), (first_child 1 0 (omega arith) (omega arith), (first_child 2 0 (omega arith) (omega arith), (first_child 2 1 (omega arith) (omega arith), (first_child 3 0 (omega arith) (omega arith), (first_child 3 1 (omega arith) (omega arith), tt))))))

pub are_children : (k : Part) → IsPart k → All (IsChild k) (children k)
are_children (data_of s b) p = All-nil (IsChild (data_of s b))
are_children (secondary_of s) p =
    All-map (IsChild (secondary_of s)) (data_of s) (range_with_len 0 (super_block_of s).blocks) (All-range (λ b. IsChild (secondary_of s) (data_of s b)) 0 (super_block_of s).blocks (λ b lo hi. data_child s b p.0 p.1 (omega arith)))
are_children index_block p =
    All-append (IsChild index_block) first_parts second_parts All-first (All-map (IsChild index_block) secondary_of (range_with_len 4 9) (All-range (λ s. IsChild index_block (secondary_of s)) 4 9 (λ s lo hi. second_child s lo (omega arith))))
are_children header p = All-cons (IsChild header) index_block [] (record { part = tt; parent = refl; other = omega arith }) (All-nil (IsChild header))

-- ---- The slots of chunks

-- where the slot of a chunk number stands
pub record IsHeldAt (i : ℕ) : Type 0 where
  pub part : IsPart (holder i)
  pub index : ℕ
  pub inside : index < slot_count (holder i)
  pub offset : slot_offset i ≡ slots_from (holder i) + 8 * index

pub holder_low : (i : ℕ) → i < 4 → (holder i ≡ index_block) × (slot_offset i ≡ 14 + 8 * i)
holder_low i h =
    let e : nat_lt i 4 ≡ true = grind (arith, nat_tests) in
    (ap (λ t. cond t index_block (holder_of (slot_place_of (i - 4)))) e, ap (λ t. cond t (14 + 8 * i) (18 + 8 * (slot_place_of (i - 4)).slot)) e)

pub holder_high : (i : ℕ) → 4 ≤ i → (holder i ≡ holder_of (slot_place_of (i - 4))) × (slot_offset i ≡ 18 + 8 * (slot_place_of (i - 4)).slot)
holder_high i h =
    let e : nat_lt i 4 ≡ false = grind (arith, nat_tests) in
    (ap (λ t. cond t index_block (holder_of (slot_place_of (i - 4)))) e, ap (λ t. cond t (14 + 8 * i) (18 + 8 * (slot_place_of (i - 4)).slot)) e)

pub held_at : (i : ℕ) → i < 131060 → IsHeldAt i
held_at i h =
    elim (cases_lt i 4) [
      | inl lt ↦
          let e = holder_low i lt in
          record {
            part = subst IsPart (sym e.0) tt;
            index = i;
            inside = subst (λ k. i < slot_count k) (sym e.0) lt;
            offset = e.1 ∙ ap (λ k. slots_from k + 8 * i) (sym e.0);
          }
      | inr ge ↦
          let e = holder_high i ge in
          let stands : IsSlotPlace (i - 4) (slot_place_of (i - 4)) = slot_place-stands (i - 4) (omega arith) in
          let few : (slot_place_of (i - 4)).sblock ≤ 12 = slot_place-super (i - 4) (omega arith) in
          record {
            part = subst IsPart (sym e.0) (few, stands.block_inside);
            index = (slot_place_of (i - 4)).slot;
            inside = subst (λ k. (slot_place_of (i - 4)).slot < slot_count k) (sym e.0) stands.slot_inside;
            offset = e.1 ∙ ap (λ k. slots_from k + 8 * (slot_place_of (i - 4)).slot) (sym e.0);
          }
    ]
