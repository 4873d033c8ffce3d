-- What an address that is set changes: the map at one chunk number.
use Rattle.std.proofs.Common.{◌≡◌, ◌≢◌, inl, inr, ℕ, ◌+◌, ◌-◌, ◌*◌, ◌^◌, ◌<◌, ◌≤◌, List, [], ◌∷◌, ◌++◌, length, zero, suc, true, false, refl, sym, ap, subst, ◌∙◌, arith, eq-eqb, ne_eqb}
use Rattle.std.proofs.Math.ListN.{set}
use Rattle.std.proofs.lemmas.List.{append-nil}
use Rattle.std.proofs.lemmas.Bool.{cases_eq, cases_lt}
use Rattle.std.proofs.lemmas.Bool.Decides.{nat_tests}
use Rattle.std.specs.Prelude.{Some, IsSome, IfSome, cond, nat_lt, flat_map, ◌==◌, if◌then◌else◌}
use Rattle.h5w_model.specs.Numbers.{undefined, field}
use Rattle.h5w_model.specs.Arrays.{numbers_in, slot_place_of, super_block_of, IsSlotPlace}
use Rattle.h5w_model.specs.Findings.{Used}
use Rattle.h5w_model.proofs.ArrayGeometry.{slot_place-stands}
use Rattle.h5w_cache.specs.Blocks.{BlockView, numbered, with_number}
use Rattle.h5w_cache.specs.Plans.{bytes_of, bytes_in}
use Rattle.h5w_cache.specs.Stores.{Store, block_of, is_changed, is_listed, changed_to}
use Rattle.h5w_laws.proofs.ApartLemmas.{all_as}
use Rattle.h5w_step_laws.specs.Ranges.{chunk_at}
use Rattle.h5w_array_laws.specs.Among.{AreAmong}
use Rattle.h5w_array_laws.specs.Parts.{Part, data_of, index_block, IsPart, number_of, head_of, sign_of, children, names_from, slot_count, slots_from, holder, slot_offset, visit_order}
use Rattle.h5w_array_laws.specs.ArrayStores.{IsArray, IsBlock, IsHeaded, Names, block_at_part, header_place, address_in, map_of, slots_in, chunks_in, own_range, ranges_of, behind_of}
use Rattle.h5w_array_laws.proofs.AmongLemmas.{part_itself, part_as, part_onward, part_none, part_joined, part_more, part_right, each-among, chunks_set, chunks_split, chunks_undefined, one_chunk}
use Rattle.h5w_ea_index.specs.Steps.{IsSet, IsUnset}
use Rattle.h5w_ea_index.proofs.ByteLemmas.{Off, length-with_number, field-with_number, field-with_other, take-with_number, numbers_in-with_other, numbers_in-with_number}
use Rattle.h5w_ea_index.proofs.PartLemmas.{number_decides, held_at, IsHeldAt, holder_low, holder_high, head_fits, sign_fits, slots_fit, slots_apart}
use Rattle.h5w_ea_index.proofs.StoreLemmas.{none-listed, set-same, set-other, set-cases}
use Rattle.h5w_ea_index.proofs.ArrayLemmas.{Suits, headed_changed, part_inside}
use Rattle.h5w_ea_index.proofs.OrderLemmas.{visited_parts, visited_once, only, only-once, none_of}
use Rattle.h5w_ea_index.proofs.StepLemmas.{IsLater, later_standing, later_stands}

-- ---- Slots are apart

slots_equal : (i j s b r c p q : ℕ) → data_of s b ≡ data_of r c → (super_block_of s).start + b * (super_block_of s).slots + p ≡ i → (super_block_of r).start + c * (super_block_of r).slots + q ≡ j → p ≡ q → i ≡ j
slots_equal i j s b r c p q e f g h =
    let es : s ≡ r = cc in
    let eb : b ≡ c = cc in
    sym f ∙ (λ t. (super_block_of (es t)).start + eb t * (super_block_of (es t)).slots + h t) ∙ g

pub slot_decides : (i j : ℕ) → i < 131060 → j < 131060 → holder i ≡ holder j → slot_offset i ≡ slot_offset j → i ≡ j
slot_decides i j hi hj e o =
    elim (cases_lt i 4) [
      | inl li ↦
          elim (cases_lt j 4) [
            | inl lj ↦ let a = (holder_low i li).1 in let b = (holder_low j lj).1 in omega arith
            | inr gj ↦ let t : index_block ≡ data_of (slot_place_of (j - 4)).sblock (slot_place_of (j - 4)).block = sym (holder_low i li).0 ∙ e ∙ (holder_high j gj).0 in absurd (cc)
          ]
      | inr gi ↦
          elim (cases_lt j 4) [
            | inl lj ↦ let t : index_block ≡ data_of (slot_place_of (i - 4)).sblock (slot_place_of (i - 4)).block = sym (holder_low j lj).0 ∙ sym e ∙ (holder_high i gi).0 in absurd (cc)
            | inr gj ↦
                let a : IsSlotPlace (i - 4) (slot_place_of (i - 4)) = slot_place-stands (i - 4) (omega arith) in
                let b : IsSlotPlace (j - 4) (slot_place_of (j - 4)) = slot_place-stands (j - 4) (omega arith) in
                let x = (holder_high i gi).1 in
                let y = (holder_high j gj).1 in
                let f : i - 4 ≡ j - 4 = slots_equal (i - 4) (j - 4) (slot_place_of (i - 4)).sblock (slot_place_of (i - 4)).block (slot_place_of (j - 4)).sblock (slot_place_of (j - 4)).block (slot_place_of (i - 4)).slot (slot_place_of (j - 4)).slot
                (sym (holder_high i gi).0 ∙ e ∙ (holder_high j gj).0) a.number b.number (omega arith) in
                omega arith
          ]
    ]

-- ---- The block with the address

-- where the slot of chunk number i lies in its block
record IsInside (i : ℕ) (b : BlockView) : Type 0 where
  pub inside : slot_offset i + 8 ≤ length b.bytes
  pub signed : length (sign_of (holder i)) ≤ slot_offset i
  pub names : Off (names_from (holder i)) (8 * length (children (holder i))) (slot_offset i) 8

inside_block : (i : ℕ) (b : BlockView) → i < 131060 → IsBlock (holder i) b → IsInside i b
inside_block i b lt s =
    let h : IsHeldAt i = held_at i lt in
    let fit = slots_fit (holder i) h.part in
    let o = h.offset in
    let j = h.inside in
    let len = s.len in
    let front = sign_fits (holder i) in
    record {
      inside = omega arith;
      signed = omega arith;
      names = elim (slots_apart (holder i)) [ inl a ↦ inr (omega arith) | inr a ↦ inl (omega arith) ];
    }

pub suits_set : (v : Store) (i x : ℕ) (b : BlockView) → i < 131060 → Suits v (holder i) b → Suits v (holder i) (numbered (slot_offset i) x b)
suits_set v i x b lt s =
    let h : IsHeldAt i = held_at i lt in
    let o : ℕ = slot_offset i in
    let in' = inside_block i b lt s.block in
    record {
      block = record {
        len = length-with_number o x b.bytes in'.inside ∙ s.block.len;
        links = s.block.links;
        turn = s.block.turn;
        in_place = s.block.in_place;
        sealed = s.block.sealed;
        signed = take-with_number o x b.bytes (length (sign_of (holder i))) in'.inside in'.signed ∙ s.block.signed;
      };
      names = numbers_in-with_other o x b.bytes (length (children (holder i))) (names_from (holder i)) in'.inside in'.names ∙ s.names;
    }

-- the slots with one set
pub slots_set : (i x bytes : ℕ) (b : BlockView) → i < 131060 → x < 2 ^ 64 → IsBlock (holder i) b
    → AreAmong (chunks_in bytes (slots_in (Some (numbered (slot_offset i) x b)) (holder i))) (chunk_at x bytes ∷ chunks_in bytes (slots_in (Some b) (holder i)))
slots_set i x bytes b lt fits s =
    let h : IsHeldAt i = held_at i lt in
    let k : Part = holder i in
    let fit = slots_fit k h.part in
    let len = s.len in
    let e : slots_in (Some (numbered (slot_offset i) x b)) k ≡ set (numbers_in b.bytes (slot_count k) (slots_from k)) h.index x =
    ap (λ o. numbers_in (with_number o x b.bytes) (slot_count k) (slots_from k)) h.offset ∙ numbers_in-with_number x b.bytes (slot_count k) (slots_from k) h.index h.inside (omega arith) fits in
    subst (λ l. AreAmong (chunks_in bytes l) (chunk_at x bytes ∷ chunks_in bytes (slots_in (Some b) k))) (sym e) (chunks_set bytes (numbers_in b.bytes (slot_count k) (slots_from k)) h.index x)

-- another slot keeps its address
other_slot : (i j x : ℕ) (b : BlockView) → i < 131060 → j < 131060 → x < 2 ^ 64 → IsBlock (holder i) b → holder i ≡ holder j → i ≢ j → field (with_number (slot_offset i) x b.bytes) (slot_offset j) 8 ≡ field b.bytes (slot_offset j) 8
other_slot i j x b hi hj fits s e ne =
    let a : IsHeldAt i = held_at i hi in
    let c : IsHeldAt j = held_at j hj in
    let in' = inside_block i b hi s in
    let same : slots_from (holder i) ≡ slots_from (holder j) = ap slots_from e in
    let oi = a.offset in
    let oj = c.offset in
    let apart : slot_offset i ≢ slot_offset j = λ o. ne (slot_decides i j hi hj e o) in
    field-with_other (slot_offset i) x b.bytes (slot_offset j) in'.inside
    (elim (cases_lt a.index c.index) [
      | inl lt ↦ inr (omega arith)
      | inr ge ↦ inl (elim (cases_eq a.index c.index) [
        | inl f ↦ absurd (apart (oi ∙ ap (λ n. slots_from (holder i) + 8 * n) f ∙ ap (λ n. n + 8 * c.index) same ∙ sym oj))
        | inr nf ↦ omega arith
      ])
    ])

-- ---- The store with it

-- an address that may be set
pub record MaySet (v : Store) (i x : ℕ) (b : BlockView) : Type 0 where
  pub below : i < 131060
  pub fits : x < 2 ^ 64
  pub array : IsArray v
  pub changed : is_changed v (number_of (holder i)) ≡ true
  pub is : block_at_part v (holder i) ≡ Some b

abbrev pub with_set : Store → ℕ → ℕ → BlockView → Store
with_set v i x b = changed_to (number_of (holder i)) (numbered (slot_offset i) x b) v

pub set_suits : (v : Store) (i x : ℕ) (b : BlockView) → MaySet v i x b → Suits v (holder i) b
set_suits v i x b m =
    let p : IsPart (holder i) = (held_at i m.below).part in
    record {
      block = subst (λ o. IfSome o (IsBlock (holder i))) m.is (m.array.each (holder i) p);
      names = subst (λ o. IfSome o (Names v (holder i))) m.is (m.array.names (holder i) p);
    }

later_set : (v : Store) (i x : ℕ) (b : BlockView) → MaySet v i x b → IsLater v (with_set v i x b)
later_set v i x b m =
    let p : IsPart (holder i) = (held_at i m.below).part in
    let n : ℕ = number_of (holder i) in
    let c : BlockView = numbered (slot_offset i) x b in
    let w : Store = with_set v i x b in
    let inside : n < length v.blocks = part_inside v (holder i) p m.array in
    let kept : IsSome (block_of v n) = m.array.kept n m.changed in
    let s = inside_block i b m.below (set_suits v i x b m).block in
    record {
      places = λ k. refl;
      marks = λ k h. h;
      kept = λ k h. elim (cases_eq n k) [ inl e ↦ subst (λ y. IsSome (block_of v y)) e kept | inr ne ↦ subst IsSome (set-other v.blocks n k c ne) h.kept ];
      lengths = λ k h. set-cases (λ o. length (bytes_of o) ≡ length (bytes_in v.blocks k)) v.blocks n k c inside
          (λ e. length-with_number (slot_offset i) x b.bytes s.inside ∙ sym (ap (λ o. length (bytes_of o)) (subst (λ y. block_of v y ≡ Some b) e m.is))) (λ ne. refl);
      clean = λ k h t. set-cases (λ o. o ≡ block_of v k) v.blocks n k c inside
          (λ e. absurd (let l : is_listed k v.changed ≡ true = subst (λ y. is_listed y v.changed ≡ true) e m.changed in let z = none-listed k v.changed t in cc)) (λ ne. refl);
    }

map_at : (v : Store) (i x : ℕ) (b : BlockView) → MaySet v i x b → (j : ℕ) → map_of (with_set v i x b) j ≡ (if j == i then x else map_of v j)
map_at v i x b m j =
    let p : IsPart (holder i) = (held_at i m.below).part in
    let n : ℕ = number_of (holder i) in
    let c : BlockView = numbered (slot_offset i) x b in
    let inside : n < length v.blocks = part_inside v (holder i) p m.array in
    let s = (set_suits v i x b m).block in
    let in' = inside_block i b m.below s in
    elim (cases_lt j 131060) [
      | inl lt ↦
          let q : IsPart (holder j) = (held_at j lt).part in
          let t : nat_lt j 131060 ≡ true = grind (arith, nat_tests) in
          elim (cases_eq j i) [
            | inl e ↦
                let here : address_in (block_of (with_set v i x b) n) (slot_offset i) ≡ x = ap (λ o. address_in o (slot_offset i)) (set-same v.blocks n c inside) ∙ field-with_number (slot_offset i) x b.bytes in'.inside m.fits in
                ap (λ y. map_of (with_set v i x b) y) e ∙ ap (λ u. cond u (address_in (block_of (with_set v i x b) n) (slot_offset i)) undefined) (let u : nat_lt i 131060 ≡ true = subst (λ y. nat_lt y 131060 ≡ true) e t in u) ∙ here
                ∙ sym (ap (λ u. cond u x (map_of v j)) (eq-eqb j i e))
            | inr ne ↦
                let same : address_in (block_of (with_set v i x b) (number_of (holder j))) (slot_offset j) ≡ address_in (block_of v (number_of (holder j))) (slot_offset j) =
                set-cases (λ o. address_in o (slot_offset j) ≡ address_in (block_of v (number_of (holder j))) (slot_offset j)) v.blocks n (number_of (holder j)) c inside
                (λ e. other_slot i j x b m.below lt m.fits s (number_decides (holder i) (holder j) p q e) (λ f. ne (sym f)) ∙ sym (ap (λ o. address_in o (slot_offset j)) (subst (λ y. block_of v y ≡ Some b) e m.is)))
                (λ f. refl) in
                ap (λ a. cond (nat_lt j 131060) a undefined) same ∙ sym (ap (λ u. cond u x (map_of v j)) (ne_eqb j i ne))
          ]
      | inr ge ↦
          let f : nat_lt j 131060 ≡ false = grind (arith, nat_tests) in
          let low = m.below in
          let ne : j ≢ i = omega arith in
          ap (λ u. cond u (address_in (block_of (with_set v i x b) (number_of (holder j))) (slot_offset j)) undefined) f
          ∙ sym (ap (λ u. cond u (address_in (block_of v (number_of (holder j))) (slot_offset j)) undefined) f) ∙ sym (ap (λ u. cond u x (map_of v j)) (ne_eqb j i ne))
    ]

-- of the chunks of the block with the slot there are these more
abbrev SlotsBring : ℕ → ℕ → ℕ → BlockView → List Used → Type 0
SlotsBring i x bytes b us = AreAmong (chunks_in bytes (slots_in (Some (numbered (slot_offset i) x b)) (holder i))) (us ++ chunks_in bytes (slots_in (Some b) (holder i)))

-- the chunks of each block, with those that are more
chunks_after : (v : Store) (i x : ℕ) (b : BlockView) → MaySet v i x b → (bytes : ℕ) (us : List Used) → SlotsBring i x bytes b us → (k : Part) → IsPart k
    → AreAmong (chunks_in bytes (slots_in (block_at_part (with_set v i x b) k) k)) (only (number_of (holder i)) us k ++ chunks_in bytes (slots_in (block_at_part v k) k))
chunks_after v i x b m bytes us slots k q =
    let p : IsPart (holder i) = (held_at i m.below).part in
    let n : ℕ = number_of (holder i) in
    let c : BlockView = numbered (slot_offset i) x b in
    let inside : n < length v.blocks = part_inside v (holder i) p m.array in
    set-cases (λ o. AreAmong (chunks_in bytes (slots_in o k)) (only n us k ++ chunks_in bytes (slots_in (block_at_part v k) k))) v.blocks n (number_of k) c inside
    (λ e. subst (λ t. AreAmong (chunks_in bytes (slots_in (Some c) k)) (cond t us [] ++ chunks_in bytes (slots_in (block_at_part v k) k))) (sym (eq-eqb (number_of k) n (sym e)))
    (subst (λ (y : Part). AreAmong (chunks_in bytes (slots_in (Some c) y)) (us ++ chunks_in bytes (slots_in (block_at_part v y) y))) (number_decides (holder i) k p q e)
    (subst (λ o. AreAmong (chunks_in bytes (slots_in (Some c) (holder i))) (us ++ chunks_in bytes (slots_in o (holder i)))) (sym m.is) slots)))
    (λ ne. subst (λ t. AreAmong (chunks_in bytes (slots_in (block_at_part v k) k)) (cond t us [] ++ chunks_in bytes (slots_in (block_at_part v k) k))) (sym (ne_eqb (number_of k) n (λ e. ne (sym e))))
    (part_itself (chunks_in bytes (slots_in (block_at_part v k) k))))

ranges_after : (v : Store) (i x : ℕ) (b : BlockView) → MaySet v i x b → (bytes : ℕ) (us : List Used) → SlotsBring i x bytes b us → (k : Part) → IsPart k
    → AreAmong (ranges_of bytes (with_set v i x b) k) (only (number_of (holder i)) us k ++ ranges_of bytes v k)
ranges_after v i x b m bytes us slots k q =
    part_more (own_range v k) (chunks_in bytes (slots_in (block_at_part (with_set v i x b) k) k)) [] (only (number_of (holder i)) us k) (own_range v k) (chunks_in bytes (slots_in (block_at_part v k) k))
    (part_itself (own_range v k)) (chunks_after v i x b m bytes us slots k q)

all_once : (n : ℕ) (us : List Used) → AreAmong (flat_map (only n us) visit_order) us
all_once n us =
    elim (only-once n us visit_order (visited_once n)) [
      | inl e ↦ subst (λ (l : List Used). AreAmong l us) (sym e) (part_none us)
      | inr e ↦ part_as (flat_map (only n us) visit_order) us e
    ]

-- where the slot is in no block of the order, its chunks are the index block's
none_visited : (n : ℕ) (us : List Used) → n ≡ number_of index_block → flat_map (only n us) visit_order ≡ []
none_visited n us e = subst (λ y. flat_map (only y us) visit_order ≡ []) (sym e) (none_of us)

behind_after : (v : Store) (i x : ℕ) (b : BlockView) → MaySet v i x b → (bytes : ℕ) (us : List Used) → SlotsBring i x bytes b us → AreAmong (behind_of bytes (with_set v i x b)) (us ++ behind_of bytes v)
behind_after v i x b m bytes us slots =
    let n : ℕ = number_of (holder i) in
    let own : List Used = chunks_in bytes (slots_in (block_at_part v index_block) index_block) in
    let rest : List Used = flat_map (ranges_of bytes v) visit_order in
    let each : AreAmong (flat_map (ranges_of bytes (with_set v i x b)) visit_order) (flat_map (only n us) visit_order ++ rest) =
    each-among (ranges_of bytes (with_set v i x b)) (only n us) (ranges_of bytes v) visit_order
    (all_as IsPart (λ k. AreAmong (ranges_of bytes (with_set v i x b) k) (only n us k ++ ranges_of bytes v k)) visit_order (λ k p. ranges_after v i x b m bytes us slots k p) visited_parts) in
    let first : AreAmong (chunks_in bytes (slots_in (block_at_part (with_set v i x b) index_block) index_block)) (only n us index_block ++ own) = chunks_after v i x b m bytes us slots index_block tt in
    let all : AreAmong (behind_of bytes (with_set v i x b)) ((only n us index_block ++ flat_map (only n us) visit_order) ++ (own ++ rest)) =
    part_more (chunks_in bytes (slots_in (block_at_part (with_set v i x b) index_block) index_block)) (flat_map (ranges_of bytes (with_set v i x b)) visit_order) (only n us index_block) (flat_map (only n us) visit_order) own rest first each in
    let once : AreAmong (only n us index_block ++ flat_map (only n us) visit_order) us =
    elim (cases_eq (number_of index_block) n) [
      | inl e ↦ part_as (only n us index_block ++ flat_map (only n us) visit_order) us
          (ap (λ t. cond t us [] ++ flat_map (only n us) visit_order) (eq-eqb (number_of index_block) n e) ∙ ap (λ l. us ++ l) (none_visited n us (sym e)) ∙ append-nil us)
      | inr ne ↦ subst (λ (l : List Used). AreAmong l us) (sym (ap (λ t. cond t us [] ++ flat_map (only n us) visit_order) (ne_eqb (number_of index_block) n ne))) (all_once n us)
    ] in
    part_onward (behind_of bytes (with_set v i x b)) ((only n us index_block ++ flat_map (only n us) visit_order) ++ (own ++ rest)) (us ++ (own ++ rest)) all
    (part_joined (only n us index_block ++ flat_map (only n us) visit_order) (own ++ rest) us (own ++ rest) once (part_itself (own ++ rest)))

set_headed : (v : Store) (i x : ℕ) (b : BlockView) → MaySet v i x b → IsHeaded v → IsHeaded (with_set v i x b)
set_headed v i x b m =
    let h : IsHeldAt i = held_at i m.below in
    let in' = inside_block i b m.below (set_suits v i x b m).block in
    let fits = (head_fits (header_place v) (holder i)).1 in
    let o = h.offset in
    headed_changed v (holder i) b (numbered (slot_offset i) x b) h.part m.array m.is
    (λ e. take-with_number (slot_offset i) x b.bytes (length (head_of (header_place v) (holder i))) in'.inside (omega arith) ∙ e)

pub set_from : (v : Store) (i x : ℕ) (b : BlockView) → MaySet v i x b → IsSet i x v (with_set v i x b)
set_from v i x b m =
    let l : IsLater v (with_set v i x b) = later_set v i x b m in
    record { map = map_at v i x b m; behind = λ bytes. behind_after v i x b m bytes (chunk_at x bytes ∷ []) (slots_set i x bytes b m.below m.fits (set_suits v i x b m).block); places = λ n. refl; standing = later_standing v (with_set v i x b) l; stands = later_stands v (with_set v i x b) l; marks = λ n h. h; headed = set_headed v i x b m }

-- ---- No address

chunks_unset : (bytes : ℕ) (places : List ℕ) (k : ℕ) → AreAmong (chunks_in bytes (set places k undefined)) (chunks_in bytes places)
chunks_unset bytes [] k = part_none []
chunks_unset bytes (x ∷ rest) zero =
    subst (λ (us : List Used). AreAmong us (chunks_in bytes (x ∷ rest))) (sym (chunks_undefined bytes undefined rest refl))
    (subst (λ (us : List Used). AreAmong (chunks_in bytes rest) us) (sym (chunks_split bytes x rest)) (part_right (one_chunk bytes x) (chunks_in bytes rest)))
chunks_unset bytes (x ∷ rest) (suc k) =
    subst (λ (us : List Used). AreAmong us (chunks_in bytes (x ∷ rest))) (sym (chunks_split bytes x (set rest k undefined)))
    (subst (λ (us : List Used). AreAmong (one_chunk bytes x ++ chunks_in bytes (set rest k undefined)) us) (sym (chunks_split bytes x rest))
    (part_joined (one_chunk bytes x) (chunks_in bytes (set rest k undefined)) (one_chunk bytes x) (chunks_in bytes rest) (part_itself (one_chunk bytes x)) (chunks_unset bytes rest k)))

slots_unset : (i bytes : ℕ) (b : BlockView) → i < 131060 → IsBlock (holder i) b → SlotsBring i undefined bytes b []
slots_unset i bytes b lt s =
    let h : IsHeldAt i = held_at i lt in
    let k : Part = holder i in
    let fit = slots_fit k h.part in
    let len = s.len in
    let e : slots_in (Some (numbered (slot_offset i) undefined b)) k ≡ set (numbers_in b.bytes (slot_count k) (slots_from k)) h.index undefined =
    ap (λ o. numbers_in (with_number o undefined b.bytes) (slot_count k) (slots_from k)) h.offset ∙ numbers_in-with_number undefined b.bytes (slot_count k) (slots_from k) h.index h.inside (omega arith) (omega arith) in
    subst (λ l. AreAmong (chunks_in bytes l) (chunks_in bytes (slots_in (Some b) k))) (sym e) (chunks_unset bytes (numbers_in b.bytes (slot_count k) (slots_from k)) h.index)

pub unset_from : (v : Store) (i : ℕ) (b : BlockView) → MaySet v i undefined b → IsUnset i v (with_set v i undefined b)
unset_from v i b m =
    let s : IsSet i undefined v (with_set v i undefined b) = set_from v i undefined b m in
    record {
      map = s.map;
      behind = λ bytes. behind_after v i undefined b m bytes [] (slots_unset i bytes b m.below (set_suits v i undefined b m).block);
      places = s.places;
      standing = s.standing;
      stands = s.stands;
      marks = s.marks;
      headed = s.headed;
    }
