-- An array without chunks: it is one, and stands where its two blocks were written.
use Rattle.std.proofs.Common.{◌≡◌, ◌≢◌, ◌⊎◌, ℕ, zero, suc, ◌+◌, ◌*◌, ◌^◌, ◌<◌, true, false, cond, List, [], ◌∷◌, ◌++◌, length, length-append, append_assoc, take, get_or, replicate, Ok, refl, sym, ap, ◌∙◌, subst, inl, inr, arith}
use Rattle.std.specs.Prelude.{Some, None, IsSome, IfSome, is_some, nat_lt, flat_map, codes}
use Rattle.std.specs.List.{All, AllByRecursion, sum_by}
use Rattle.std.proofs.lemmas.Bool.{cases_eq, cases_Bool, ltb-true}
use Rattle.std.proofs.lemmas.List.{get_or-replicate, take_at}
use Rattle.std.proofs.lemmas.List.Elements.{All-nil, All-cons}
use Rattle.std.proofs.lemmas.List.Sums.{sum_by-cons}
use Rattle.h5w_model.specs.Numbers.{le, range, field, undefined}
use Rattle.h5w_model.specs.Checksum.{sum_of}
use Rattle.h5w_model.specs.Blocks.{block_tests}
use Rattle.h5w_model.specs.Images.{At}
use Rattle.h5w_model.specs.Arrays.{EahdFields, EaibFields, eahd_at, eahd_bytes, eaib_bytes, eahd_fields, eaib_fields, eahd_len, eaib_len, number_bytes, numbers_in, parameter_tests, array_tests}
use Rattle.h5w_model.proofs.NumberLemmas.{length-le}
use Rattle.h5w_model.proofs.ArrayLemmas.{length-number_bytes, length-numbers_in}
use Rattle.h5w_model.proofs.CheckedLemmas.{checked-passed}
use Rattle.h5w_model.proofs.ChecksumLemmas.{length-sealed_block, is_sealed-sealed_block}
use Rattle.h5w_model.proofs.ArrayLaws.{eahd_at-eahd_bytes, eaib_at-eaib_bytes}
use Rattle.h5w_cache.specs.Blocks.{BlockView}
use Rattle.h5w_cache.specs.Stores.{Store, block_of, place_of, is_changed}
use Rattle.h5w_cache.specs.Plans.{bytes_in, bytes_of}
use Rattle.h5w_cache.specs.StoreLaws.{AreThere}
use Rattle.h5w_array_laws.specs.Parts.{Part, data_of, secondary_of, index_block, header, IsPart, number_of, children, parent, sign_of, stays_in_place, holder, slot_offset, slot_count, slots_from, visit_order}
use Rattle.h5w_array_laws.specs.ArrayStores.{HasHead, IsArray, IsBlock, IsHeaded, IsWhole, IsCreated, IsNumbered, Names, address_in, behind_of, block_at_part, place_at_part, bytes_at_part, header_place, chunks_in, created_header, created_index, map_of, one_data, one_secondary, data_bytes, secondary_bytes, ranges_of, slots_in, total}
use Rattle.h5w_array_laws.specs.ArrayImages.{CreatedStands, CreatedStarts}
use Rattle.h5w_array_laws.proofs.BlockLemmas.{header_head}
use Rattle.h5w_array_laws.proofs.NumberLemmas.{numbers_in-get}
use Rattle.h5w_array_laws.proofs.KeptLemmas.{begins_shorter, none_is, some_is, unchanged}
use Rattle.h5w_array_laws.proofs.ReadLemmas.{numbers_in-parts, flat_map-none, ranges_none}
use Rattle.h5w_array_laws.proofs.VisitedLemmas.{few_blocks}
use Rattle.h5w_array_laws.proofs.SpelledLemmas.{IsChild, children_known}
use Rattle.h5w_array_laws.proofs.PlannedLemmas.{for_all, map_same}
use Rattle.h5w_array_laws.proofs.MapLemmas.{slot_known}
use Rattle.h5w_array_laws.proofs.OrderLemmas.{IsCopied, visited_copied}

-- ---- The bytes of the two blocks

pub all_low : (x : ℕ) (xs : List ℕ) → x < 2 ^ 64 → All (λ y. y < 2 ^ 64) xs → All (λ y. y < 2 ^ 64) (x ∷ xs)
all_low x xs h g = All-cons (λ (y : ℕ). y < 2 ^ 64) x xs h g

pub all_undefined : (n : ℕ) → All (λ y. y < 2 ^ 64) (replicate n undefined)
all_undefined zero = All-nil (λ (y : ℕ). y < 2 ^ 64)
all_undefined (suc n) = all_low undefined (replicate n undefined) (omega arith) (all_undefined n)

abbrev pub new_numbers : List ℕ
new_numbers = 0 ∷ 0 ∷ 0 ∷ 0 ∷ 0 ∷ 4 ∷ []

-- the fields of the header, and of the index block
abbrev pub new_header : ℕ → EahdFields
new_header place = record { numbers = new_numbers; block = place }

abbrev pub new_index : ℕ → EaibFields
new_index at = record { header = at; slots = replicate 4 undefined; first = replicate 6 undefined; second = replicate 25 undefined }

pub header_read : (at place : ℕ) → place < 2 ^ 64 → eahd_at (eahd_bytes (new_header place)) at ≡ Ok (new_header place)
header_read at place h =
    eahd_at-eahd_bytes (new_header place) at refl
    (all_low 0 (0 ∷ 0 ∷ 0 ∷ 0 ∷ 4 ∷ []) (omega arith) (all_low 0 (0 ∷ 0 ∷ 0 ∷ 4 ∷ []) (omega arith) (all_low 0 (0 ∷ 0 ∷ 4 ∷ []) (omega arith)
    (all_low 0 (0 ∷ 4 ∷ []) (omega arith) (all_low 0 (4 ∷ []) (omega arith) (all_low 4 [] (omega arith) (All-nil (λ (y : ℕ). y < 2 ^ 64))))))))
    h

pub header_fields : (place : ℕ) → place < 2 ^ 64 → eahd_fields (eahd_bytes (new_header place)) ≡ new_header place
header_fields place h =
    let b : List ℕ = eahd_bytes (new_header place) in
    (checked-passed (block_tests (codes "EAHD") eahd_len b ++ parameter_tests b 0) (eahd_fields b) (new_header place) (header_read 0 place h)).1

pub index_fields : (at : ℕ) → at < 2 ^ 64 → eaib_fields (eaib_bytes (new_index at)) ≡ new_index at
index_fields at h =
    let b : List ℕ = eaib_bytes (new_index at) in
    (checked-passed (block_tests (codes "EAIB") eaib_len b ++ array_tests b 0) (eaib_fields b) (new_index at)
    (eaib_at-eaib_bytes (new_index at) 0 h refl (all_undefined 4) refl (all_undefined 6) refl (all_undefined 25))).1

pub header_size : (place : ℕ) → length (eahd_bytes (new_header place)) ≡ eahd_len
header_size place =
    let numbers : List ℕ = number_bytes new_numbers in
    let front : List ℕ = header_head ++ numbers in
    let body : List ℕ = front ++ le 8 place in
    length-sealed_block body
    ∙ (let e : length body + 4 ≡ 72 = omega (arith, length-append front (le 8 place), length-append header_head numbers, length-number_bytes new_numbers, length-le 8 place) in e)

-- what the header's bytes are before their sum
abbrev pub header_body : ℕ → List ℕ
header_body place = (codes "EAHD" ++ 0 ∷ 0 ∷ 8 ∷ 32 ∷ 4 ∷ 16 ∷ 4 ∷ 10 ∷ number_bytes new_numbers) ++ le 8 place

-- one number
pub one_number : (b : List ℕ) (place : ℕ) → numbers_in b 1 place ≡ field b place 8 ∷ []
unfolding numbers_in
one_number b place = refl

-- what the index block's bytes are before their sum
abbrev pub index_body : ℕ → List ℕ
index_body at = (((codes "EAIB" ++ 0 ∷ 0 ∷ le 8 at) ++ number_bytes (replicate 4 undefined)) ++ number_bytes (replicate 6 undefined)) ++ number_bytes (replicate 25 undefined)

pub index_size : (at : ℕ) → length (eaib_bytes (new_index at)) ≡ eaib_len
index_size at =
    let b1 : List ℕ = codes "EAIB" ++ 0 ∷ 0 ∷ le 8 at in
    let b2 : List ℕ = b1 ++ number_bytes (replicate 4 undefined) in
    let b3 : List ℕ = b2 ++ number_bytes (replicate 6 undefined) in
    let n1 : length b1 ≡ 14 = omega (arith, length-le 8 at) in
    let n2 : length b2 ≡ 46 = omega (arith, n1, length-append b1 (number_bytes (replicate 4 undefined)), length-number_bytes (replicate 4 undefined)) in
    let n3 : length b3 ≡ 94 = omega (arith, n2, length-append b2 (number_bytes (replicate 6 undefined)), length-number_bytes (replicate 6 undefined)) in
    length-sealed_block (index_body at)
    ∙ (let e : length (index_body at) + 4 ≡ 298 = omega (arith, n3, length-append b3 (number_bytes (replicate 25 undefined)), length-number_bytes (replicate 25 undefined)) in e)

pub index_front : (at : ℕ) → take (length (codes "EAIB" ++ 0 ∷ 0 ∷ le 8 at)) (eaib_bytes (new_index at)) ≡ codes "EAIB" ++ 0 ∷ 0 ∷ le 8 at
index_front at =
    let h : List ℕ = codes "EAIB" ++ 0 ∷ 0 ∷ le 8 at in
    let a : List ℕ = number_bytes (replicate 4 undefined) in
    let b : List ℕ = number_bytes (replicate 6 undefined) in
    let c : List ℕ = number_bytes (replicate 25 undefined) in
    let sum : List ℕ = le 4 (sum_of (index_body at)) in
    ap (take (length h)) (append_assoc ((h ++ a) ++ b) c sum ∙ append_assoc (h ++ a) b (c ++ sum) ∙ append_assoc h a (b ++ (c ++ sum)))
    ∙ take_at h (a ++ (b ++ (c ++ sum))) (length h) refl

-- the addresses in the index block: 15 up to super block 12, and 16 beyond
pub record NamesNone (b : List ℕ) : Type 0 where
  pub near : numbers_in b 15 46 ≡ replicate 15 undefined
  pub slots : numbers_in b 4 14 ≡ replicate 4 undefined

pub index_none : (at : ℕ) → at < 2 ^ 64 → NamesNone (eaib_bytes (new_index at))
index_none at h =
    let b : List ℕ = eaib_bytes (new_index at) in
    let is = index_fields at h in
    let first : numbers_in b 6 46 ≡ replicate 6 undefined = ap (λ (e : EaibFields). e.first) is in
    let second : numbers_in b 9 94 ++ numbers_in b 16 166 ≡ replicate 9 undefined ++ replicate 16 undefined = sym (numbers_in-parts b 9 16 94) ∙ ap (λ (e : EaibFields). e.second) is in
    let nine : numbers_in b 9 94 ≡ replicate 9 undefined = sym (take_at (numbers_in b 9 94) (numbers_in b 16 166) 9 (length-numbers_in b 9 94)) ∙ ap (take 9) second in
    record {
      near = numbers_in-parts b 6 9 46 ∙ ap (λ l. l ++ numbers_in b 9 94) first ∙ ap (λ l. replicate 6 undefined ++ l) nine;
      slots = ap (λ (e : EaibFields). e.slots) is;
    }

-- ---- The store

pub none_counted : (v : Store) (weight : Part → ℕ) (ks : List Part) → AllByRecursion (λ k. block_at_part v k ≡ None) ks → sum_by (λ k. cond (is_some (block_at_part v k)) (weight k) 0) ks ≡ 0
none_counted v weight [] h = refl
none_counted v weight (k ∷ ks) h =
    let f : Part → ℕ = λ k. cond (is_some (block_at_part v k)) (weight k) 0 in
    let none : f k ≡ 0 = ap (λ o. cond (is_some o) (weight k) 0) h.0 in
    omega (arith, sum_by-cons f k ks, none, none_counted v weight ks h.1)

module _ (at place : ℕ) (v : Store) (c : IsCreated at place v) (low : at < undefined) (lower : place < undefined) where
  pub header_bytes_are : bytes_at_part v header ≡ eahd_bytes (new_header place)
  header_bytes_are = ap bytes_of c.has_header

  -- all other parts are nowhere
  pub data_none : (s n : ℕ) → IsPart (data_of s n) → (block_at_part v (data_of s n) ≡ None) × (place_at_part v (data_of s n) ≡ undefined)
  data_none s n is = c.none (65 * s + n) (λ e. absurd (omega (arith, e, is.0, is.1, few_blocks s is.0))) (λ e. absurd (omega (arith, e, is.0, is.1, few_blocks s is.0)))

  pub secondary_none : (s : ℕ) → IsPart (secondary_of s) → (block_at_part v (secondary_of s) ≡ None) × (place_at_part v (secondary_of s) ≡ undefined)
  secondary_none s is = c.none (65 * s + 64) (λ e. absurd (omega (arith, e, is.1))) (λ e. absurd (omega (arith, e, is.1)))

  pub copied_none : (k : Part) → IsCopied k → (block_at_part v k ≡ None) × (place_at_part v k ≡ undefined)
  copied_none (data_of s n) h = data_none s n h.part
  copied_none (secondary_of s) h = secondary_none s h.part
  copied_none index_block h = absurd (let e : true ≡ false = h.moves in cc)
  copied_none header h = absurd (let e : true ≡ false = h.moves in cc)

  -- what holds of each kept block
  pub of_parts : (P : Part → BlockView → Type 0) → P index_block (created_index at) → P header (created_header place) → (k : Part) → IsPart k → IfSome (block_at_part v k) (P k)
  of_parts P index top (data_of s n) is = subst (λ o. IfSome o (P (data_of s n))) (sym (data_none s n is).0) tt
  of_parts P index top (secondary_of s) is = subst (λ o. IfSome o (P (secondary_of s))) (sym (secondary_none s is).0) tt
  of_parts P index top index_block is = subst (λ o. IfSome o (P index_block)) (sym c.has_index) index
  of_parts P index top header is = subst (λ o. IfSome o (P header)) (sym c.has_header) top

  pub kept_which : (k : Part) → IsPart k → IsSome (block_at_part v k) → (k ≡ index_block) ⊎ (k ≡ header)
  kept_which (data_of s n) is h = absurd (none_is (block_at_part v (data_of s n)) (data_none s n is).0 h)
  kept_which (secondary_of s) is h = absurd (none_is (block_at_part v (secondary_of s)) (secondary_none s is).0 h)
  kept_which index_block is h = inl refl
  kept_which header is h = inr refl

  pub children_none : (ks : List Part) → AllByRecursion (IsChild index_block) ks → AllByRecursion (λ k. place_at_part v k ≡ undefined) ks
  children_none ks h = for_all (IsChild index_block) (λ k. place_at_part v k ≡ undefined) ks one h
    where
      one : (k : Part) → IsChild index_block k → place_at_part v k ≡ undefined
      one (data_of s n) x = (data_none s n x.0).1
      one (secondary_of s) x = (secondary_none s x.0).1
      one index_block x = absurd cc
      one header x = absurd cc

  pub index_is_block : IsBlock index_block (created_index at)
  index_is_block = record {
    len = index_size at;
    links = refl;
    turn = refl;
    in_place = refl;
    sealed = refl;
    signed = begins_shorter (sign_of index_block) (le 8 at) (eaib_bytes (new_index at)) (index_front at);
  }

  pub header_is_block : IsBlock header (created_header place)
  header_is_block = record { len = header_size place; links = refl; turn = refl; in_place = refl; sealed = refl; signed = refl }

  pub index_names_none : Names v index_block (created_index at)
  index_names_none =
      (index_none at (omega arith)).near
      ∙ sym (map_same (place_at_part v) (λ k. undefined) (children index_block) (children_none (children index_block) (children_known index_block tt)))

  pub header_names : Names v header (created_header place)
  header_names =
      let b : List ℕ = eahd_bytes (new_header place) in
      let is : field b 60 8 ≡ place = ap (λ (e : EahdFields). e.block) (header_fields place (omega arith)) in
      one_number b 60 ∙ ap (λ q. q ∷ []) (is ∙ sym c.index_at)

  pub index_whole : IsWhole v index_block (created_index at)
  index_whole = record { placed = λ u. absurd (omega (arith, c.index_at, u, lower)); sealed = is_sealed-sealed_block (index_body at) }

  pub header_whole : IsWhole v header (created_header place)
  header_whole = record { placed = λ u. absurd (omega (arith, c.header_at, u, low)); sealed = is_sealed-sealed_block (header_body place) }

  pub never_changed : (n : ℕ) → is_changed v n ≡ true → ⊥
  never_changed n h = let f : is_changed v n ≡ false = unchanged v c.changed n in absurd cc

  pub places_below : (n : ℕ) → place_of v n < 2 ^ 64
  places_below n = go (cases_eq n 846) (cases_eq n 845)
    where
      go : (n ≡ 846) ⊎ (n ≡ 846 → ⊥) → (n ≡ 845) ⊎ (n ≡ 845 → ⊥) → place_of v n < 2 ^ 64
      go (inl e) x = let is : place_of v n ≡ at = ap (place_of v) e ∙ c.header_at in omega (arith, is, low)
      go (inr a) (inl e) = let is : place_of v n ≡ place = ap (place_of v) e ∙ c.index_at in omega (arith, is, lower)
      go (inr a) (inr b) = let is = (c.none n a b).1 in omega (arith, is)

  pub kept_known : (n : ℕ) → IsSome (block_of v n) → (k : Part) × IsPart k × (number_of k ≡ n)
  kept_known n h = go (cases_eq n 846) (cases_eq n 845)
    where
      go : (n ≡ 846) ⊎ (n ≡ 846 → ⊥) → (n ≡ 845) ⊎ (n ≡ 845 → ⊥) → (k : Part) × IsPart k × (number_of k ≡ n)
      go (inl e) x = (header, tt, sym e)
      go (inr a) (inl e) = (index_block, tt, sym e)
      go (inr a) (inr b) = absurd (none_is (block_of v n) (c.none n a b).0 h)

  pub both_kept : (k : Part) → stays_in_place k ≡ true → IsSome (block_at_part v k) × (place_at_part v k ≢ undefined)
  both_kept (data_of s b) h = absurd cc
  both_kept (secondary_of s) h = absurd cc
  both_kept index_block h = (some_is (block_at_part v index_block) (created_index at) c.has_index, index_whole.placed)
  both_kept header h = (some_is (block_at_part v header) (created_header place) c.has_header, header_whole.placed)

  pub parent_kept : (k : Part) → IsPart k → IsSome (block_at_part v k) → IsSome (block_at_part v (parent k))
  parent_kept k is h = go (kept_which k is h)
    where
      go : (k ≡ index_block) ⊎ (k ≡ header) → IsSome (block_at_part v (parent k))
      go (inl e) = subst (λ (x : Part). IsSome (block_at_part v (parent x))) (sym e) (both_kept header refl).0
      go (inr e) = subst (λ (x : Part). IsSome (block_at_part v (parent x))) (sym e) (both_kept header refl).0

  pub unplaced_none : (k : Part) → IsPart k → block_at_part v k ≡ None → place_at_part v k ≡ undefined
  unplaced_none (data_of s n) is e = (data_none s n is).1
  unplaced_none (secondary_of s) is e = (secondary_none s is).1
  unplaced_none index_block is e = absurd (none_is (block_at_part v index_block) e (both_kept index_block refl).0)
  unplaced_none header is e = absurd (none_is (block_at_part v header) e (both_kept header refl).0)

  pub created_array : IsArray v
  created_array = record {
    count = c.count;
    each_place = c.each_place;
    below = places_below;
    known = kept_known;
    each = of_parts (λ k. IsBlock k) index_is_block header_is_block;
    names = of_parts (Names v) index_names_none header_names;
    in_place = λ k is stay. both_kept k stay;
    held = parent_kept;
    unplaced = unplaced_none;
    marked = λ k is h. absurd (never_changed (number_of k) h);
    kept = λ n h. absurd (never_changed n h);
    together = λ h. absurd (never_changed 846 h);
    whole = λ k is h. of_parts (IsWhole v) index_whole header_whole k is;
  }

  pub created_headed : IsHeaded v
  created_headed = of_parts (λ k b. HasHead (header_place v) k b) (subst (λ q. HasHead q index_block (created_index at)) (sym c.header_at) (index_front at)) refl

  -- ---- What it starts with

  pub slot_none : (k : Part) → IsPart k → (i : ℕ) → i < slot_count k → address_in (block_at_part v k) (slots_from k + 8 * i) ≡ undefined
  slot_none (data_of s n) is i lt = ap (λ o. address_in o (18 + 8 * i)) (data_none s n is).0
  slot_none (secondary_of s) is i lt = absurd (omega arith)
  slot_none index_block is i lt =
      ap (λ o. address_in o (14 + 8 * i)) c.has_index
      ∙ sym (numbers_in-get (eaib_bytes (new_index at)) 4 14 i undefined lt)
      ∙ ap (λ l. get_or l i undefined) (index_none at (omega arith)).slots
      ∙ get_or-replicate 4 i undefined undefined lt
  slot_none header is i lt = absurd (omega arith)

  pub map_none : (i : ℕ) → map_of v i ≡ undefined
  map_none i = go (cases_Bool (nat_lt i 131060))
    where
      go : (nat_lt i 131060 ≡ true) ⊎ (nat_lt i 131060 ≡ false) → map_of v i ≡ undefined
      go (inl e) =
          let x = slot_known i (ltb-true i 131060 e) in
          ap (λ t. cond t (address_in (block_at_part v (holder i)) (slot_offset i)) undefined) e
          ∙ ap (address_in (block_at_part v (holder i))) x.offset
          ∙ slot_none (holder i) x.part x.slot x.few
      go (inr e) = ap (λ t. cond t (address_in (block_at_part v (holder i)) (slot_offset i)) undefined) e

  pub visited_none : AllByRecursion (λ k. block_at_part v k ≡ None) visit_order
  visited_none = for_all IsCopied (λ k. block_at_part v k ≡ None) visit_order (λ k h. (copied_none k h).0) visited_copied

  pub behind_none : (bytes : ℕ) → behind_of bytes v ≡ []
  behind_none bytes =
      ap (λ o. chunks_in bytes (slots_in o index_block) ++ flat_map (ranges_of bytes v) visit_order) c.has_index
      ∙ ap (λ l. chunks_in bytes l ++ flat_map (ranges_of bytes v) visit_order) (index_none at (omega arith)).slots
      ∙ flat_map-none (ranges_of bytes v) visit_order (for_all IsCopied (λ k. ranges_of bytes v k ≡ []) visit_order (λ k h. ranges_none bytes v k (copied_none k h).0 (copied_none k h).1) visited_copied)

  pub total_none : (weight : Part → ℕ) → total weight v ≡ 0
  total_none weight = none_counted v weight visit_order visited_none

  pub created_numbered : IsNumbered v
  created_numbered =
      let t1 = sym (total_none one_secondary) in
      let t2 = sym (total_none secondary_bytes) in
      let t3 = sym (total_none one_data) in
      let t4 = sym (total_none data_bytes) in
      let t5 = sym (total_none slot_count) in
      record {
        max = 0;
        greatest = record { above = λ i n. absurd (n (map_none i)); least = inl refl };
        six =
            ap (λ b. numbers_in b 6 12) header_bytes_are
            ∙ ap (λ (e : EahdFields). e.numbers) (header_fields place (omega arith))
            ∙ (λ i. t1 i ∷ t2 i ∷ t3 i ∷ t4 i ∷ 0 ∷ (4 + t5 i) ∷ []);
      }

pub created_starts : CreatedStarts
created_starts at place v c low lower = record {
  array = created_array at place v c low lower;
  headed = created_headed at place v c low lower;
  numbered = created_numbered at place v c low lower;
  map = map_none at place v c low lower;
  behind = behind_none at place v c low lower;
}

-- ---- On an image

pub created_there : (at place : ℕ) (v : Store) (img : List ℕ) → IsCreated at place v → At img at (created_header place).bytes → At img place (created_index at).bytes → AreThere v img
created_there at place v img c h i n placed clean = go (cases_eq n 846) (cases_eq n 845)
  where
    standing : (m p : ℕ) (b : BlockView) → n ≡ m → block_of v m ≡ Some b → place_of v m ≡ p → At img p b.bytes → At img (place_of v n) (bytes_in v.blocks n)
    standing m p b e block where_at s =
        subst (λ k. At img (place_of v k) (bytes_in v.blocks k)) (sym e)
        (subst (λ q. At img q (bytes_of (block_of v m))) (sym where_at) (subst (λ o. At img p (bytes_of o)) (sym block) s))

    go : (n ≡ 846) ⊎ (n ≡ 846 → ⊥) → (n ≡ 845) ⊎ (n ≡ 845 → ⊥) → At img (place_of v n) (bytes_in v.blocks n)
    go (inl e) x = standing 846 at (created_header place) e c.has_header c.header_at h
    go (inr a) (inl e) = standing 845 place (created_index at) e c.has_index c.index_at i
    go (inr a) (inr b) = absurd (none_is (block_of v n) (c.none n a b).0 placed.kept)

pub created_stands : CreatedStands
created_stands at place v img c low lower h i = record {
  there = created_there at place v img c h i;
  headed = record {
    fields = new_header place;
    read =
        ap (λ p. eahd_at (range img p eahd_len) p) c.header_at
        ∙ ap (λ b. eahd_at b at) (ap (range img at) (sym (header_size place)) ∙ h)
        ∙ header_read at place lower;
    names = sym c.index_at;
  };
}
