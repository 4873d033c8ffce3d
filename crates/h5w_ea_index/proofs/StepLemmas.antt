-- What marks and a block that is added leave of an array's map, ranges and places.
use Rattle.std.proofs.Common.{◌≡◌, inl, inr, ℕ, zero, suc, ◌<◌, List, [], ◌∷◌, ◌++◌, length, get_or, replicate, true, false, refl, sym, ap, subst, ◌∙◌, arith}
use Rattle.std.proofs.lemmas.List.{get_or-replicate}
use Rattle.std.proofs.lemmas.Bool.{cases_lt, cases_Bool}
use Rattle.std.proofs.lemmas.Bool.Decides.{nat_tests}
use Rattle.std.specs.Prelude.{None, IsSome, cond, nat_lt, flat_map}
use Rattle.std.specs.Prelude.{◌==◌, Ok}
use Rattle.h5w_model.specs.Numbers.{undefined, field, range}
use Rattle.h5w_model.specs.Images.{At}
use Rattle.h5w_model.specs.Arrays.{numbers_in, eahd_at, eahd_len}
use Rattle.h5w_space.specs.Space.{Space, IsLive, Apart, extent}
use Rattle.h5w_cache.specs.Blocks.{BlockView}
use Rattle.h5w_cache.specs.Plans.{bytes_of, bytes_in}
use Rattle.h5w_cache.specs.Stores.{Store, block_of, place_of, place_in, is_changed, is_listed, times, marked}
use Rattle.h5w_cache.specs.StoreLaws.{IsPlaced, Standing, range_of}
use Rattle.h5w_laws.proofs.ApartLemmas.{all_as}
use Rattle.h5w_step_laws.specs.Ranges.{block_at}
use Rattle.h5w_array_laws.specs.Parts.{Part, index_block, IsPart, number_of, length_of, slot_count, slots_from, holder, slot_offset, visit_order}
use Rattle.h5w_array_laws.specs.ArrayStores.{HasHead, IsHeaded, block_at_part, place_at_part, header_place, address_in, map_of, slots_in, chunks_in, own_range, ranges_of, behind_of}
use Rattle.h5w_array_laws.specs.ArrayImages.{StandsArray}
use Rattle.h5w_ea_index.specs.Steps.{IsHeld}
use Rattle.h5w_ea_index.proofs.ByteLemmas.{get_or-numbers_in}
use Rattle.h5w_ea_index.proofs.PartLemmas.{number_decides, held_at, IsHeldAt}
use Rattle.h5w_ea_index.proofs.StoreLemmas.{marks, marked-is, marks-self, marks-more, listed-none, none-listed, set-cases}
use Rattle.h5w_ea_index.proofs.ArrayLemmas.{MayAdd, added, added_as, added-is, added_place, headed_added, part_inside}
use Rattle.h5w_ea_index.proofs.OrderLemmas.{visited_parts, flat_map-same}

-- ---- Places and what stands

-- a store whose placed blocks were placed there, as long, and where they are clean the same
pub record IsLater (v w : Store) : Type 0 where
  pub places : (n : ℕ) → place_of w n ≡ place_of v n
  pub marks : (n : ℕ) → is_changed v n ≡ true → is_changed w n ≡ true
  pub kept : (n : ℕ) → IsPlaced w n → IsSome (block_of v n)
  pub lengths : (n : ℕ) → IsPlaced w n → length (bytes_in w.blocks n) ≡ length (bytes_in v.blocks n)
  pub clean : (n : ℕ) → IsPlaced w n → times n w.changed ≡ 0 → block_of w n ≡ block_of v n

was_placed : (v w : Store) → IsLater v w → (n : ℕ) → IsPlaced w n → IsPlaced v n
was_placed v w l n h = record { kept = l.kept n h; placed = λ u. h.placed (l.places n ∙ u) }

same_range : (v w : Store) → IsLater v w → (n : ℕ) → IsPlaced w n → range_of v n ≡ range_of w n
same_range v w l n h = ap (λ p. extent p (length (bytes_in v.blocks n))) (sym (l.places n)) ∙ ap (λ k. extent (place_in w.places n) k) (sym (l.lengths n h))

pub later_standing : (v w : Store) → IsLater v w → (s : Space) → Standing v s → Standing w s
later_standing v w l s st = record {
  live = λ n h. subst (IsLive s) (same_range v w l n h) (st.live n (was_placed v w l n h));
  some = λ n h. subst (λ k. 0 < k) (sym (l.lengths n h)) (st.some n (was_placed v w l n h));
  apart = λ n k ne h g. subst (λ r. Apart r (range_of w k)) (same_range v w l n h) (subst (Apart (range_of v n)) (same_range v w l k g) (st.apart n k ne (was_placed v w l n h) (was_placed v w l k g)));
}

was_clean : (v w : Store) → IsLater v w → (n : ℕ) → times n w.changed ≡ 0 → times n v.changed ≡ 0
was_clean v w l n h =
    listed-none n v.changed (elim (cases_Bool (is_changed v n)) [ inl e ↦ absurd (let t = l.marks n e in let u = none-listed n w.changed h in cc) | inr e ↦ e ])

pub later_stands : (v w : Store) → IsLater v w → (img : List ℕ) → StandsArray v img → StandsArray w img
later_stands v w l img st = record {
  there = λ n h c.
      subst (λ p. At img p (bytes_in w.blocks n)) (sym (l.places n))
      (subst (λ o. At img (place_of v n) (bytes_of o)) (sym (l.clean n h c)) (st.there n (was_placed v w l n h) (was_clean v w l n c)));
  headed = record {
    fields = st.headed.fields;
    read = subst (λ p. eahd_at (range img p eahd_len) p ≡ Ok st.headed.fields) (sym (l.places 846)) st.headed.read;
    names = st.headed.names ∙ sym (l.places 845);
  };
}

pub held_from : (v w : Store) → IsLater v w → ((i : ℕ) → map_of w i ≡ map_of v i) → ((bytes : ℕ) → behind_of bytes w ≡ behind_of bytes v) → (IsHeaded v → IsHeaded w) → IsHeld v w
held_from v w l m b h = record { map = m; behind = b; places = l.places; standing = later_standing v w l; stands = later_stands v w l; marks = l.marks; headed = h }

pub held_onward : (u v w : Store) → IsHeld u v → IsHeld v w → IsHeld u w
held_onward u v w a b = record {
  map = λ i. b.map i ∙ a.map i;
  behind = λ n. b.behind n ∙ a.behind n;
  places = λ n. b.places n ∙ a.places n;
  standing = λ s h. b.standing s (a.standing s h);
  stands = λ img h. b.stands img (a.stands img h);
  marks = λ n h. b.marks n (a.marks n h);
  headed = λ h. b.headed (a.headed h);
}

-- ---- Marks

more_marks : (v : Store) (d : List ℕ) → ((n : ℕ) → is_listed n v.changed ≡ true → is_listed n d ≡ true) → IsHeld v (record v { changed = d })
more_marks v d more =
    held_from v (record v { changed = d })
    (record { places = λ n. refl; marks = more; kept = λ n h. h.kept; lengths = λ n h. refl; clean = λ n h c. refl })
    (λ i. refl) (λ n. refl) (λ h. h)

pub held_marked : (v : Store) (n : ℕ) → IsHeld v (marked n v)
held_marked v n = subst (IsHeld v) (sym (marked-is n v)) (more_marks v (marks n v.changed) (λ m h. marks-more n m v.changed h))

pub is_marked : (v : Store) (n : ℕ) → is_changed (marked n v) n ≡ true
is_marked v n = ap (λ (s : Store). is_changed s n) (marked-is n v) ∙ marks-self n v.changed

-- ---- A block is added, whose slots are all undefined

pub map-from : (v w : Store) → ((i : ℕ) → i < 131060 → address_in (block_at_part w (holder i)) (slot_offset i) ≡ address_in (block_at_part v (holder i)) (slot_offset i)) → (i : ℕ) → map_of w i ≡ map_of v i
map-from v w h i =
    elim (cases_lt i 131060) [
      | inl lt ↦ ap (λ a. cond (nat_lt i 131060) a undefined) (h i lt)
      | inr ge ↦
          let e : nat_lt i 131060 ≡ false = grind (arith, nat_tests) in
          ap (λ t. cond t (address_in (block_at_part w (holder i)) (slot_offset i)) undefined) e ∙ sym (ap (λ t. cond t (address_in (block_at_part v (holder i)) (slot_offset i)) undefined) e)
    ]

-- no slot has an address
abbrev pub IsEmpty : Part → BlockView → Type 0
IsEmpty k b = numbers_in b.bytes (slot_count k) (slots_from k) ≡ replicate (slot_count k) undefined

pub empty_slot : (i : ℕ) (b : BlockView) → i < 131060 → IsEmpty (holder i) b → field b.bytes (slot_offset i) 8 ≡ undefined
empty_slot i b lt e =
    let h : IsHeldAt i = held_at i lt in
    ap (λ o. field b.bytes o 8) h.offset
    ∙ sym (get_or-numbers_in b.bytes (slot_count (holder i)) (slots_from (holder i)) h.index undefined h.inside)
    ∙ ap (λ l. get_or l h.index undefined) e
    ∙ get_or-replicate (slot_count (holder i)) h.index undefined undefined h.inside

pub no_chunks : (bytes n : ℕ) → chunks_in bytes (replicate n undefined) ≡ []
no_chunks bytes zero = refl
no_chunks bytes (suc n) = no_chunks bytes n

-- the ranges of a block by its place
pub own_same : (v w : Store) (k : Part) → place_at_part w k ≡ place_at_part v k → own_range w k ≡ own_range v k
own_same v w k e = ap (λ p. cond (p == undefined) [] (block_at p (length_of k) ∷ [])) e

pub ranges_same : (bytes : ℕ) (v w : Store) (k : Part) → place_at_part w k ≡ place_at_part v k → chunks_in bytes (slots_in (block_at_part w k) k) ≡ chunks_in bytes (slots_in (block_at_part v k) k) → ranges_of bytes w k ≡ ranges_of bytes v k
ranges_same bytes v w k e f = λ i. own_same v w k e i ++ f i

pub behind_same : (bytes : ℕ) (v w : Store) → ((k : Part) → IsPart k → place_at_part w k ≡ place_at_part v k) → ((k : Part) → IsPart k → chunks_in bytes (slots_in (block_at_part w k) k) ≡ chunks_in bytes (slots_in (block_at_part v k) k)) → behind_of bytes w ≡ behind_of bytes v
behind_same bytes v w e f =
    let rest : flat_map (ranges_of bytes w) visit_order ≡ flat_map (ranges_of bytes v) visit_order =
    flat_map-same (ranges_of bytes w) (ranges_of bytes v) visit_order (all_as IsPart (λ k. ranges_of bytes w k ≡ ranges_of bytes v k) visit_order (λ k p. ranges_same bytes v w k (e k p) (f k p)) visited_parts) in
    λ i. f index_block tt i ++ rest i

later_added : (v : Store) (k : Part) (b : BlockView) → MayAdd v k → IsLater v (added_as (number_of k) b v)
later_added v k b may =
    let n : ℕ = number_of k in
    let w : Store = added_as n b v in
    let inside : n < length v.blocks = part_inside v k may.part may.array in
    let places : (m : ℕ) → place_of w m ≡ place_of v m = added_place v k b may.part may.array may.none in
    let other : (m : ℕ) → IsPlaced w m → block_of w m ≡ block_of v m = λ m h.
    set-cases (λ o. o ≡ block_of v m) v.blocks n m b inside (λ e. absurd (h.placed (places m ∙ subst (λ x. place_of v x ≡ undefined) e (may.array.unplaced k may.part may.none)))) (λ ne. refl) in
    record {
      places = places;
      marks = λ m h. marks-more n m v.changed h;
      kept = λ m h. subst IsSome (other m h) h.kept;
      lengths = λ m h. ap (λ o. length (bytes_of o)) (other m h);
      clean = λ m h c. other m h;
    }

pub held_added : (v : Store) (k : Part) (b : BlockView) → MayAdd v k → IsEmpty k b → HasHead (header_place v) k b → IsHeld v (added (number_of k) b v)
held_added v k b may empty head =
    let n : ℕ = number_of k in
    let w : Store = added_as n b v in
    let inside : n < length v.blocks = part_inside v k may.part may.array in
    let l : IsLater v w = later_added v k b may in
    subst (IsHeld v) (sym (added-is n b v)) (held_from v w l
    (map-from v w (λ i lt. set-cases (λ o. address_in o (slot_offset i) ≡ address_in (block_at_part v (holder i)) (slot_offset i)) v.blocks n (number_of (holder i)) b inside
    (λ e. let h : IsHeldAt i = held_at i lt in let same : k ≡ holder i = number_decides k (holder i) may.part h.part e in
    empty_slot i b lt (subst (λ x. IsEmpty x b) same empty) ∙ sym (ap (λ o. address_in o (slot_offset i)) (subst (λ x. block_at_part v x ≡ None) same may.none)))
    (λ ne. refl)))
    (λ bytes. behind_same bytes v w (λ m p. l.places (number_of m))
    (λ m p. set-cases (λ o. chunks_in bytes (slots_in o m) ≡ chunks_in bytes (slots_in (block_at_part v m) m)) v.blocks n (number_of m) b inside
    (λ e. let same : k ≡ m = number_decides k m may.part p e in
    ap (chunks_in bytes) (subst (λ x. IsEmpty x b) same empty) ∙ no_chunks bytes (slot_count m) ∙ sym (ap (λ o. chunks_in bytes (slots_in o m)) (subst (λ x. block_at_part v x ≡ None) same may.none)))
    (λ ne. refl)))
    (headed_added v k b may head))

pub is_added : (v : Store) (n : ℕ) (b : BlockView) → is_changed (added n b v) n ≡ true
is_added v n b = ap (λ (s : Store). is_changed s n) (added-is n b v) ∙ marks-self n v.changed
