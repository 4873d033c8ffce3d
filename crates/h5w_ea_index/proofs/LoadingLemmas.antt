-- A store while blocks are loaded: one more is kept, or is not there.
use Rattle.std.proofs.Common.{◌≡◌, ◌≢◌, ◌⊎◌, inl, inr, ℕ, zero, suc, ◌+◌, ◌-◌, ◌*◌, ◌^◌, ◌<◌, ◌≤◌, List, [], ◌∷◌, ◌++◌, length, map, true, false, refl, sym, ap, subst, ◌∙◌, arith}
use Rattle.std.proofs.lemmas.Bool.{cases_eq, cases_lt}
use Rattle.std.proofs.lemmas.Bool.Decides.{nat_tests}
use Rattle.std.specs.Prelude.{Option, Some, None, IsSome, IfSome, cond, nat_lt, Ok}
use Rattle.std.specs.List.{range_with_len}
use Rattle.h5w_model.specs.Numbers.{field, range, undefined}
use Rattle.h5w_model.specs.Arrays.{blocks_before, eahd_at, eahd_len, numbers_in, super_block_of}
use Rattle.h5w_cache.specs.Blocks.{BlockView}
use Rattle.h5w_cache.specs.Stores.{Store, block_of, place_of}
use Rattle.h5w_array_laws.specs.Parts.{Part, data_of, secondary_of, index_block, header, IsPart, number_of, length_of, parent, stays_in_place, first_parts, second_parts, data_blocks_of}
use Rattle.h5w_array_laws.specs.ArrayStores.{IsArray, IsBlock, IsWhole, Names, address_in, block_at_part, place_at_part}
use Rattle.h5w_array_laws.proofs.KeptLemmas.{is_some_of, none_is, of_some, some_is, some_or_none, unchanged}
use Rattle.h5w_array_laws.proofs.GeometryLemmas.{first_number}
use Rattle.h5w_ea_index.specs.Created.{IsBare, Keeps}
use Rattle.h5w_ea_index.specs.Loading.{IsLoading, copied_part, name_offset, named_place, rank}
use Rattle.h5w_ea_index.specs.declared.copied.Copied.{Copied}
use Rattle.h5w_ea_index.specs.declared.copied.Copied.TheVariants.{Data, Secondary}
use Rattle.h5w_ea_index.specs.Opened.{IsHeaderAt, IsOpened, IsSound, IsThere, StandsAt, refusal}
use Rattle.h5w_ea_index.proofs.PartLemmas.{blocks_few, number_decides}
use Rattle.h5w_ea_index.proofs.WayLemmas.{first_parent, second_parent}

if_some : {A : Type 0} (o : Option A) (Q : A → Type 0) → ((x : A) → o ≡ Some x → Q x) → IfSome o Q
if_some None Q h = tt
if_some (Some x) Q h = h x refl

-- ---- The order

pub rank_decides : (k m : Part) → IsPart k → IsPart m → stays_in_place k ≡ false → stays_in_place m ≡ false → rank k ≡ rank m → k ≡ m
rank_decides (data_of s b) (data_of r c) p q x y e =
    let few = blocks_few s p.0 in
    let other = blocks_few r q.0 in
    let u = p.1 in
    let v = q.1 in
    let es : s ≡ r = omega arith in
    let eb : b ≡ c = omega arith in
    λ i. data_of (es i) (eb i)
rank_decides (data_of s b) (secondary_of r) p q x y e = let few = blocks_few s p.0 in let u = p.1 in absurd (omega arith)
rank_decides (secondary_of s) (data_of r c) p q x y e = let few = blocks_few r q.0 in let u = q.1 in absurd (omega arith)
rank_decides (secondary_of s) (secondary_of r) p q x y e = let es : s ≡ r = omega arith in ap secondary_of es
rank_decides (data_of s b) index_block p q x y e = absurd (cc)
rank_decides (data_of s b) header p q x y e = absurd (cc)
rank_decides (secondary_of s) index_block p q x y e = absurd (cc)
rank_decides (secondary_of s) header p q x y e = absurd (cc)
rank_decides index_block m p q x y e = absurd (cc)
rank_decides header m p q x y e = absurd (cc)

pub rank_inside : (k : Part) → IsPart k → stays_in_place k ≡ false → rank k < 845
rank_inside (data_of s b) p x = let few = blocks_few s p.0 in let u = p.1 in let l = p.0 in omega arith
rank_inside (secondary_of s) p x = let l = p.1 in omega arith
rank_inside index_block p x = absurd (cc)
rank_inside header p x = absurd (cc)

-- the block that names it is one in place, or comes before it
record IsAbove (k : Part) : Type 0 where
  pub part : IsPart (parent k)
  pub other : number_of k ≢ number_of (parent k)
  pub before : (stays_in_place (parent k) ≡ true) ⊎ ((stays_in_place (parent k) ≡ false) × (rank (parent k) < rank k))

above_in_place : (k : Part) → number_of k < 845 → parent k ≡ index_block → IsAbove k
above_in_place k lt e =
    let n : number_of (parent k) ≡ 845 = ap number_of e in
    record {
      part = subst IsPart (sym e) tt;
      other = λ same. absurd (omega arith);
      before = inl (ap stays_in_place e);
    }

above : (k : Part) → IsPart k → stays_in_place k ≡ false → IsAbove k
above (data_of s b) p x =
    let few = blocks_few s p.0 in
    let u = p.1 in
    let l = p.0 in
    elim (cases_lt s 4) [
      | inl lt ↦ above_in_place (data_of s b) (omega arith) (first_parent s b lt)
      | inr ge ↦
          let e : parent (data_of s b) ≡ secondary_of s = second_parent s b ge in
          let n : number_of (parent (data_of s b)) ≡ 65 * s + 64 = ap number_of e in
          let r : rank (parent (data_of s b)) ≡ 65 * s = ap rank e in
          record {
            part = subst IsPart (sym e) (ge, p.0);
            other = λ same. absurd (omega arith);
            before = inr (ap stays_in_place e, omega arith);
          }
    ]
above (secondary_of s) p x = let l = p.1 in above_in_place (secondary_of s) (omega arith) refl
above index_block p x = absurd (cc)
above header p x = absurd (cc)

-- ---- A block is kept

-- what is known where a block is kept under the number of a part
pub record Keeping (top m : ℕ) (v w : Store) (k : Part) (b : BlockView) (p : ℕ) : Type 0 where
  pub loading : IsLoading top m v
  pub part : IsPart k
  pub moves : stays_in_place k ≡ false
  pub next : rank k ≡ m
  pub named : p ≡ named_place v k
  pub defined : p ≢ undefined
  pub low : p < 2 ^ 64
  pub sound : IsSound k b
  pub keeps : Keeps (number_of k) b p v w

-- what holds of each part once it is kept
keeping_cases : (top m : ℕ) (v w : Store) (k : Part) (b : BlockView) (p : ℕ) → Keeping top m v w k b p → (P : Part → Option BlockView → ℕ → Type 0) → P k (Some b) p → (j : Part) → IsPart j
    → (k ≢ j → P j (block_at_part v j) (place_at_part v j)) → P j (block_at_part w j) (place_at_part w j)
keeping_cases top m v w k b p h P here j q there =
    elim (cases_eq (number_of j) (number_of k)) [
      | inl e ↦
          let same : k ≡ j = number_decides k j h.part q (sym e) in
          subst (λ (x : Part). P x (block_at_part w x) (place_at_part w x)) same
          (subst (λ o. P k o (place_at_part w k)) (sym h.keeps.here) (subst (λ a. P k (Some b) a) (sym h.keeps.place) here))
      | inr ne ↦
          let o = h.keeps.others (number_of j) ne in
          subst (λ x. P j x (place_at_part w j)) (sym o.0) (subst (λ a. P j (block_at_part v j) a) (sym o.1) (there (λ e. ne (ap number_of (sym e)))))
    ]

none_named : (o : Option BlockView) (n : ℕ) → o ≡ None → address_in o n ≡ undefined
none_named o n e = ap (λ x. address_in x n) e

keeping_up : (top m : ℕ) (v w : Store) (k : Part) (b : BlockView) (p : ℕ) → Keeping top m v w k b p → IsSome (block_at_part v (parent k))
keeping_up top m v w k b p h =
    elim (some_or_none (block_at_part v (parent k))) [
      | inl e ↦ absurd (h.defined (h.named ∙ none_named (block_at_part v (parent k)) (name_offset k) e))
      | inr t ↦ some_is (block_at_part v (parent k)) t.0 t.1
    ]

module _ (top m : ℕ) (v w : Store) (k : Part) (b : BlockView) (p : ℕ) (h : Keeping top m v w k b p) where
  kept_on : (n : ℕ) → IsSome (block_of v n) → IsSome (block_of w n)
  kept_on n some =
      elim (cases_eq n (number_of k)) [
        | inl e ↦ subst (λ x. IsSome (block_of w x)) (sym e) (some_is (block_of w (number_of k)) b h.keeps.here)
        | inr ne ↦ subst IsSome (sym (h.keeps.others n ne).0) some
      ]

  was_kept : (j : Part) → IsPart j → k ≢ j → IsSome (block_at_part w j) → IsSome (block_at_part v j)
  was_kept j q ne some = subst IsSome (h.keeps.others (number_of j) (λ e. ne (number_decides k j h.part q (sym e)))).0 some

  -- what names a part other than this one's own children says the same
  named_on : (j : Part) → IsPart (parent j) → (k ≢ parent j) → named_place w j ≡ named_place v j
  named_on j q ne = ap (λ o. address_in o (name_offset j)) (h.keeps.others (number_of (parent j)) (λ e. ne (number_decides k (parent j) h.part q (sym e)))).0

  up_other : k ≢ parent k
  up_other e = (above k h.part h.moves).other (ap number_of e)

  named_other : (j : Part) → IsPart j → stays_in_place j ≡ false → rank j < m + 1 → k ≢ parent j
  named_other j q x lt e =
      let a = above j q x in
      let moves = h.moves in
      let next = h.next in
      elim a.before [
        | inl stays ↦ let t : stays_in_place k ≡ true = ap stays_in_place e ∙ stays in absurd (cc)
        | inr before ↦ let r : rank k ≡ rank (parent j) = ap rank e in let l = before.1 in absurd (omega arith)
      ]

  pub loading_kept : IsLoading top (m + 1) w
  loading_kept =
      let l = h.loading in
      let moves = h.moves in
      record {
        top = (h.keeps.others 846 (λ e. let t : header ≡ k = number_decides header k tt h.part e in let f : true ≡ stays_in_place k = ap stays_in_place t in absurd (cc))).1 ∙ l.top;
        count = h.keeps.count ∙ l.count;
        each_place = h.keeps.each_place ∙ l.each_place;
        below = λ n. elim (cases_eq n (number_of k)) [
          | inl e ↦ subst (λ x. place_of w x < 2 ^ 64) (sym e) (subst (λ a. a < 2 ^ 64) (sym h.keeps.place) h.low)
          | inr ne ↦ subst (λ a. a < 2 ^ 64) (sym (h.keeps.others n ne).1) (l.below n)
        ];
        known = λ n some. elim (cases_eq n (number_of k)) [
          | inl e ↦ (k, h.part, sym e)
          | inr ne ↦ l.known n (subst IsSome (h.keeps.others n ne).0 some)
        ];
        each = λ j q. keeping_cases top m v w k b p h (λ x o a. IfSome o (IsBlock x)) h.sound.block j q (λ ne. l.each j q);
        whole = λ j q. elim (cases_eq (number_of j) (number_of k)) [
          | inl e ↦
              let same : k ≡ j = number_decides k j h.part q (sym e) in
              subst (λ (x : Part). IfSome (block_at_part w x) (IsWhole w x)) same
              (subst (λ o. IfSome o (IsWhole w k)) (sym h.keeps.here) (record { placed = λ u. h.defined (sym h.keeps.place ∙ u); sealed = h.sound.sealed }))
          | inr ne ↦
              let o = h.keeps.others (number_of j) ne in
              subst (λ x. IfSome x (IsWhole w j)) (sym o.0) (if_some (block_at_part v j) (IsWhole w j) (λ c e.
              let y = of_some (IsWhole v j) (block_at_part v j) c e (l.whole j q) in
              record { placed = λ u. y.placed (sym o.1 ∙ u); sealed = y.sealed }))
        ];
        in_place = λ j q x. kept_on (number_of j) (l.in_place j q x);
        held = λ j q some. elim (cases_eq (number_of j) (number_of k)) [
          | inl e ↦
              let same : k ≡ j = number_decides k j h.part q (sym e) in
              subst (λ (x : Part). IsSome (block_at_part w (parent x))) same (kept_on (number_of (parent k)) (keeping_up top m v w k b p h))
          | inr ne ↦ kept_on (number_of (parent j)) (l.held j q (was_kept j q (λ e. ne (ap number_of (sym e))) some))
        ];
        unplaced = λ j q. keeping_cases top m v w k b p h (λ x o a. o ≡ None → a ≡ undefined) (λ e. absurd (cc)) j q (λ ne e. l.unplaced j q e);
        changed = h.keeps.changed ∙ l.changed;
        headed =
            let moves = h.moves in
            named_on index_block tt (λ e. let t : stays_in_place k ≡ true = ap stays_in_place e in absurd (cc))
            ∙ l.headed
            ∙ sym (h.keeps.others 845 (λ e. let t : index_block ≡ k = number_decides index_block k tt h.part e in let f : true ≡ stays_in_place k = ap stays_in_place t in absurd (cc))).1;
        named = λ j q x lt. elim (cases_eq (number_of j) (number_of k)) [
          | inl e ↦
              let same : k ≡ j = number_decides k j h.part q (sym e) in
              subst (λ (y : Part). named_place w y ≡ place_at_part w y) same (named_on k (above k h.part h.moves).part up_other ∙ sym h.named ∙ sym h.keeps.place)
          | inr ne ↦
              let next = h.next in
              let low : rank j < m = elim (cases_eq (rank j) m) [
                | inl e ↦ absurd (ne (ap number_of (rank_decides j k q h.part x h.moves (e ∙ sym next))))
                | inr nm ↦ omega arith
              ] in
              named_on j (above j q x).part (named_other j q x lt) ∙ l.named j q x low ∙ sym (h.keeps.others (number_of j) ne).1
        ];
        later = λ j q x ge.
            let next = h.next in
            let ne : number_of j ≢ number_of k = λ e. let same : j ≡ k = number_decides j k q h.part e in let r : rank j ≡ rank k = ap rank same in absurd (omega arith) in
            (h.keeps.others (number_of j) ne).0 ∙ l.later j q x (omega arith);
      }

-- ---- No block is there

pub loading_none : (top m : ℕ) (v : Store) (k : Part) → IsLoading top m v → IsPart k → stays_in_place k ≡ false → rank k ≡ m → named_place v k ≡ undefined → IsLoading top (m + 1) v
loading_none top m v k l part moves next none = record {
  top = l.top;
  count = l.count;
  each_place = l.each_place;
  below = l.below;
  known = l.known;
  each = l.each;
  whole = l.whole;
  in_place = l.in_place;
  held = l.held;
  unplaced = l.unplaced;
  changed = l.changed;
  headed = l.headed;
  named = λ j q x lt. elim (cases_eq (rank j) m) [
    | inl e ↦ subst (λ (y : Part). named_place v y ≡ place_at_part v y) (rank_decides k j part q moves x (next ∙ sym e)) (none ∙ sym (l.unplaced k part (l.later k part moves (omega arith))))
    | inr ne ↦ l.named j q x (omega arith)
  ];
  later = λ j q x ge. l.later j q x (omega arith);
}

-- no block has a rank between these
pub loading_skip : (top m n : ℕ) (v : Store) → m ≤ n → ((k : Part) → IsPart k → stays_in_place k ≡ false → m ≤ rank k → n ≤ rank k) → IsLoading top m v → IsLoading top n v
loading_skip top m n v le gap l = record {
  top = l.top;
  count = l.count;
  each_place = l.each_place;
  below = l.below;
  known = l.known;
  each = l.each;
  whole = l.whole;
  in_place = l.in_place;
  held = l.held;
  unplaced = l.unplaced;
  changed = l.changed;
  headed = l.headed;
  named = λ j q x lt. elim (cases_lt (rank j) m) [
    | inl low ↦ l.named j q x low
    | inr ge ↦ let h = gap j q x ge in absurd (omega arith)
  ];
  later = λ j q x ge. l.later j q x (omega arith);
}

-- super blocks 0 to 3 have no secondary block
pub no_secondary : (s : ℕ) → s < 4 → (k : Part) → IsPart k → stays_in_place k ≡ false → 65 * s ≤ rank k → 65 * s + 1 ≤ rank k
no_secondary s lt (data_of r c) p x h = let few = blocks_few r p.0 in let u = p.1 in omega arith
no_secondary s lt (secondary_of r) p x h = let u = p.0 in omega arith
no_secondary s lt index_block p x h = absurd (cc)
no_secondary s lt header p x h = absurd (cc)

-- a super block has so many data blocks
pub no_more_data : (s : ℕ) → (k : Part) → IsPart k → stays_in_place k ≡ false → 65 * s + 1 + (super_block_of s).blocks ≤ rank k → 65 * (s + 1) ≤ rank k
no_more_data s (data_of r c) p x h =
    let few = blocks_few r p.0 in
    let u = p.1 in
    elim (cases_eq r s) [
      | inl e ↦ let v : c < (super_block_of s).blocks = subst (λ y. c < (super_block_of y).blocks) e u in absurd (omega arith)
      | inr ne ↦ omega arith
    ]
no_more_data s (secondary_of r) p x h = omega arith
no_more_data s index_block p x h = absurd (cc)
no_more_data s header p x h = absurd (cc)

-- ---- What the code asks of it

pub copied_moves : (p : Copied) → stays_in_place (copied_part p) ≡ false
copied_moves (Data s b) = refl
copied_moves (Secondary s) = refl

name_fits : (k : Part) → IsPart k → stays_in_place k ≡ false → name_offset k + 8 ≤ length_of (parent k)
name_fits (data_of s b) p x =
    elim (cases_lt s 4) [
      | inl lt ↦
          let f = first_number s b lt p.1 in
          let few = f.0 in
          let t : nat_lt s 4 ≡ true = grind (arith, nat_tests) in
          let o : name_offset (data_of s b) ≡ 46 + 8 * (blocks_before s + b) = ap (λ y. cond y (46 + 8 * (blocks_before s + b)) (18 + 8 * b)) t in
          let l : length_of (parent (data_of s b)) ≡ 298 = ap length_of (first_parent s b lt) in
          omega arith
      | inr ge ↦
          let u = p.1 in
          let t : nat_lt s 4 ≡ false = grind (arith, nat_tests) in
          let o : name_offset (data_of s b) ≡ 18 + 8 * b = ap (λ y. cond y (46 + 8 * (blocks_before s + b)) (18 + 8 * b)) t in
          let l : length_of (parent (data_of s b)) ≡ 22 + 8 * (super_block_of s).blocks = ap length_of (second_parent s b ge) in
          omega arith
    ]
name_fits (secondary_of s) p x = let l = p.1 in omega arith
name_fits index_block p x = absurd (cc)
name_fits header p x = absurd (cc)

pub name_read : (top m : ℕ) (v : Store) (k : Part) (n o : ℕ) → IsLoading top m v → IsPart k → stays_in_place k ≡ false → n ≡ number_of (parent k) → o ≡ name_offset k → IfSome (block_of v n) (λ b. o + 8 ≤ length b.bytes)
name_read top m v k n o l p x e f =
    subst (λ q. IfSome (block_of v q) (λ b. o + 8 ≤ length b.bytes)) (sym e)
    (if_some (block_at_part v (parent k)) (λ b. o + 8 ≤ length b.bytes) (λ b is.
    let len = (of_some (IsBlock (parent k)) (block_at_part v (parent k)) b is (l.each (parent k) (above k p x).part)).len in
    let fits = name_fits k p x in
    omega arith))

pub read_named : (v : Store) (k : Part) (n o a : ℕ) → n ≡ number_of (parent k) → o ≡ name_offset k → a ≡ address_in (block_of v n) o → a ≡ named_place v k
read_named v k n o a e f is = is ∙ ap (λ q. address_in (block_of v q) o) e ∙ ap (address_in (block_at_part v (parent k))) f

-- ---- The first two blocks

-- where these two are kept, and nothing else
pub record Beginning (header_at block_at : ℕ) (top index : BlockView) (u v w : Store) : Type 0 where
  pub bare : IsBare 847 u
  pub index_kept : Keeps 845 index block_at u v
  pub top_kept : Keeps 846 top header_at v w
  pub top_sound : IsSound header top
  pub index_sound : IsSound index_block index
  pub names : field top.bytes 60 8 ≡ block_at
  pub top_fits : header_at + 72 < 2 ^ 64
  pub index_fits : block_at + 298 < 2 ^ 64

module _ (header_at block_at : ℕ) (top index : BlockView) (u v w : Store) (h : Beginning header_at block_at top index u v w) where
  begun_index : block_of w 845 ≡ Some index
  begun_index = (h.top_kept.others 845 (λ e. absurd (omega arith))).0 ∙ h.index_kept.here

  begun_place : place_of w 845 ≡ block_at
  begun_place = (h.top_kept.others 845 (λ e. absurd (omega arith))).1 ∙ h.index_kept.place

  begun_none : (n : ℕ) → n ≢ 846 → n ≢ 845 → (block_of w n ≡ None) × (place_of w n ≡ undefined)
  begun_none n a b = ((h.top_kept.others n a).0 ∙ (h.index_kept.others n b).0 ∙ h.bare.none n, (h.top_kept.others n a).1 ∙ (h.index_kept.others n b).1 ∙ h.bare.unplaced n)

  begun_part : (P : Part → Type 0) → P header → P index_block → ((k : Part) → IsPart k → stays_in_place k ≡ false → (block_at_part w k ≡ None) × (place_at_part w k ≡ undefined) → P k) → (k : Part) → IsPart k → P k
  begun_part P a b c (data_of s n) p = let few = blocks_few s p.0 in let lt = p.1 in let l = p.0 in c (data_of s n) p refl (begun_none (65 * s + n) (λ e. absurd (omega arith)) (λ e. absurd (omega arith)))
  begun_part P a b c (secondary_of s) p = let l = p.1 in c (secondary_of s) p refl (begun_none (65 * s + 64) (λ e. absurd (omega arith)) (λ e. absurd (omega arith)))
  begun_part P a b c index_block p = b
  begun_part P a b c header p = a

  pub loading_begun : IsLoading header_at 0 w
  loading_begun =
      let tf = h.top_fits in
      let xf = h.index_fits in
      record {
        top = h.top_kept.place;
        count = h.top_kept.count ∙ h.index_kept.count ∙ h.bare.count;
        each_place = h.top_kept.each_place ∙ h.index_kept.each_place ∙ h.bare.each_place;
        below = λ n. elim (cases_eq n 846) [
          | inl e ↦ subst (λ q. place_of w q < 2 ^ 64) (sym e) (subst (λ a. a < 2 ^ 64) (sym h.top_kept.place) (omega arith))
          | inr ne ↦ elim (cases_eq n 845) [
            | inl e ↦ subst (λ q. place_of w q < 2 ^ 64) (sym e) (subst (λ a. a < 2 ^ 64) (sym begun_place) (omega arith))
            | inr nf ↦ subst (λ a. a < 2 ^ 64) (sym (begun_none n ne nf).1) (omega arith)
          ]
        ];
        known = λ n some. elim (cases_eq n 846) [
          | inl e ↦ (header, tt, sym e)
          | inr ne ↦ elim (cases_eq n 845) [
            | inl e ↦ (index_block, tt, sym e)
            | inr nf ↦ absurd (none_is (block_of w n) (begun_none n ne nf).0 some)
          ]
        ];
        each = begun_part (λ k. IfSome (block_at_part w k) (IsBlock k)) (subst (λ o. IfSome o (IsBlock header)) (sym h.top_kept.here) h.top_sound.block) (subst (λ o. IfSome o (IsBlock index_block)) (sym begun_index) h.index_sound.block)
            (λ k p x n. subst (λ o. IfSome o (IsBlock k)) (sym n.0) tt);
        whole = begun_part (λ k. IfSome (block_at_part w k) (IsWhole w k))
            (subst (λ o. IfSome o (IsWhole w header)) (sym h.top_kept.here) (record { placed = λ q. (let e = h.top_kept.place in absurd (omega arith)); sealed = h.top_sound.sealed }))
            (subst (λ o. IfSome o (IsWhole w index_block)) (sym begun_index) (record { placed = λ q. (let e = begun_place in absurd (omega arith)); sealed = h.index_sound.sealed }))
            (λ k p x n. subst (λ o. IfSome o (IsWhole w k)) (sym n.0) tt);
        in_place = begun_part (λ k. stays_in_place k ≡ true → IsSome (block_at_part w k)) (λ q. some_is (block_of w 846) top h.top_kept.here) (λ q. some_is (block_of w 845) index begun_index) (λ k p x n q. absurd (cc));
        held = begun_part (λ k. IsSome (block_at_part w k) → IsSome (block_at_part w (parent k))) (λ q. some_is (block_of w 846) top h.top_kept.here) (λ q. some_is (block_of w 846) top h.top_kept.here)
            (λ k p x n q. absurd (none_is (block_at_part w k) n.0 q));
        unplaced = begun_part (λ k. block_at_part w k ≡ None → place_at_part w k ≡ undefined) (λ q. absurd (none_is (block_of w 846) q (some_is (block_of w 846) top h.top_kept.here)))
            (λ q. absurd (none_is (block_of w 845) q (some_is (block_of w 845) index begun_index))) (λ k p x n q. n.1);
        changed = h.top_kept.changed ∙ h.index_kept.changed ∙ h.bare.changed;
        headed = ap (λ o. address_in o 60) h.top_kept.here ∙ h.names ∙ sym begun_place;
        named = λ k p x lt. absurd (omega arith);
        later = begun_part (λ k. stays_in_place k ≡ false → 0 ≤ rank k → block_at_part w k ≡ None) (λ q r. absurd (cc)) (λ q r. absurd (cc)) (λ k p x n q r. n.0);
      }

  pub opened_begun : (img : List ℕ) (first : ℕ) → IsHeaderAt img header_at top.bytes block_at → IsThere img index_block block_at index → IsOpened img first w
  opened_begun img first a b = record {
    headed = record {
      fields = a.fields;
      read = subst (λ q. eahd_at (range img q eahd_len) q ≡ Ok a.fields) (sym h.top_kept.place) a.read;
      names = a.names ∙ sym begun_place;
    };
    each = begun_part (λ k. IfSome (block_at_part w k) (StandsAt img first k (place_at_part w k)))
        (subst (λ o. IfSome o (StandsAt img first header (place_at_part w header))) (sym h.top_kept.here) (inl (subst (λ q. IsThere img header q top) (sym h.top_kept.place) (record { there = a.there; sound = ap refusal a.read }))))
        (subst (λ o. IfSome o (StandsAt img first index_block (place_at_part w index_block))) (sym begun_index) (inl (subst (λ q. IsThere img index_block q index) (sym begun_place) b)))
        (λ k p x n. subst (λ o. IfSome o (StandsAt img first k (place_at_part w k))) (sym n.0) tt);
  }

-- ---- All are loaded

-- each of these places stands in the bytes, one after another
abbrev EachNamed : (Part → ℕ) → List ℕ → ℕ → List Part → Type 0
EachNamed f b place [] = Unit {0}
EachNamed f b place (k ∷ ks) = (field b place 8 ≡ f k) × EachNamed f b (place + 8) ks

names_each : (f : Part → ℕ) (b : List ℕ) (place : ℕ) (ks : List Part) → EachNamed f b place ks → numbers_in b (length ks) place ≡ map f ks
unfolding numbers_in
names_each f b place [] h = refl
names_each f b place (k ∷ ks) h = λ i. h.0 i ∷ names_each f b (place + 8) ks h.1 i

module _ (top : ℕ) (v : Store) (l : IsLoading top 845 v) where
  named_in : (k : Part) (b : BlockView) → IsPart k → stays_in_place k ≡ false → block_at_part v (parent k) ≡ Some b → field b.bytes (name_offset k) 8 ≡ place_at_part v k
  named_in k b q x e = sym (ap (λ o. address_in o (name_offset k)) e) ∙ l.named k q x (rank_inside k q x)

  seconds_named : (b : BlockView) → block_at_part v index_block ≡ Some b → (s n : ℕ) → 4 ≤ s → s + n ≡ 13 → EachNamed (place_at_part v) b.bytes (94 + 8 * (s - 4)) (map secondary_of (range_with_len s n))
  seconds_named b e s zero far last = tt
  seconds_named b e s (suc n) far last =
      let next : 94 + 8 * (s + 1 - 4) ≡ 94 + 8 * (s - 4) + 8 = omega arith in
      let low : s ≤ 12 = omega arith in (
        named_in (secondary_of s) b (far, low) refl e,
        subst (λ p. EachNamed (place_at_part v) b.bytes p (map secondary_of (range_with_len (s + 1) n))) next (seconds_named b e (s + 1) n (omega arith) (omega arith)),
      )

  index_named : (b : BlockView) → block_at_part v index_block ≡ Some b → EachNamed (place_at_part v) b.bytes 46 (first_parts ++ second_parts)
  index_named b e = (
    named_in (data_of 0 0) b (omega arith, omega arith) refl e,
    (
      named_in (data_of 1 0) b (omega arith, omega arith) refl e,
      (
        named_in (data_of 2 0) b (omega arith, omega arith) refl e,
        (
          named_in (data_of 2 1) b (omega arith, omega arith) refl e,
          (
            named_in (data_of 3 0) b (omega arith, omega arith) refl e,
            (named_in (data_of 3 1) b (omega arith, omega arith) refl e, seconds_named b e 4 9 (omega arith) (omega arith)),
          ),
        ),
      ),
    ),
  )

  data_named : (s : ℕ) (b : BlockView) → 4 ≤ s → s ≤ 12 → block_at_part v (secondary_of s) ≡ Some b → (c n : ℕ) → c + n ≡ (super_block_of s).blocks → EachNamed (place_at_part v) b.bytes (18 + 8 * c) (map (data_of s) (range_with_len c n))
  data_named s b far low e c zero last = tt
  data_named s b far low e c (suc n) last =
      let next : 18 + 8 * (c + 1) ≡ 18 + 8 * c + 8 = omega arith in
      let inside : c < (super_block_of s).blocks = omega arith in
      let up : block_at_part v (parent (data_of s c)) ≡ Some b = ap (block_at_part v) (second_parent s c far) ∙ e in
      let here : name_offset (data_of s c) ≡ 18 + 8 * c = (let t : nat_lt s 4 ≡ false = grind (arith, nat_tests) in ap (λ x. cond x (46 + 8 * (blocks_before s + c)) (18 + 8 * c)) t) in (
        ap (λ o. field b.bytes o 8) (sym here) ∙ named_in (data_of s c) b (low, inside) refl up,
        subst (λ p. EachNamed (place_at_part v) b.bytes p (map (data_of s) (range_with_len (c + 1) n))) next (data_named s b far low e (c + 1) n (omega arith)),
      )

  all_named : (k : Part) → IsPart k → (b : BlockView) → block_at_part v k ≡ Some b → Names v k b
  all_named (data_of s c) p b e = names_each (place_at_part v) b.bytes 18 [] tt
  all_named (secondary_of s) p b e = names_each (place_at_part v) b.bytes 18 (data_blocks_of s) (data_named s b p.0 p.1 e 0 (super_block_of s).blocks (omega arith))
  all_named index_block p b e = names_each (place_at_part v) b.bytes 46 (first_parts ++ second_parts) (index_named b e)
  all_named header p b e = names_each (place_at_part v) b.bytes 60 (index_block ∷ []) (sym (ap (λ o. address_in o 60) e) ∙ l.headed, tt)

  pub loaded_array : IsArray v
  loaded_array =
      let clean = unchanged v l.changed in
      record {
        count = l.count;
        each_place = l.each_place;
        below = l.below;
        known = l.known;
        each = l.each;
        names = λ k p. if_some (block_at_part v k) (Names v k) (all_named k p);
        in_place = λ k p x.
            let t = is_some_of (block_at_part v k) (l.in_place k p x) in
            (l.in_place k p x, (of_some (IsWhole v k) (block_at_part v k) t.0 t.1 (l.whole k p)).placed);
        held = l.held;
        unplaced = l.unplaced;
        marked = λ k p h. let f = clean (number_of k) in absurd (cc);
        kept = λ n h. let f = clean n in absurd (cc);
        together = λ h. let f = clean 846 in absurd (cc);
        whole = λ k p h. l.whole k p;
      }
