-- The slots of an array's blocks stay through a plan, so each chunk number has the address that it had.
use Rattle.std.proofs.Common.{◌≡◌, ◌⊎◌, ℕ, ◌+◌, ◌-◌, ◌*◌, ◌<◌, ◌≤◌, true, false, cond, List, refl, sym, ap, ◌∙◌, subst, inl, inr, arith}
use Rattle.std.specs.Prelude.{Option, Some, None, nat_lt}
use Rattle.std.proofs.lemmas.Bool.{cases_lt, cases_Bool, ltb-true, ltb-false}
use Rattle.std.proofs.lemmas.List.Elements.{All-nil}
use Rattle.h5w_model.specs.Numbers.{num, range, undefined}
use Rattle.h5w_model.specs.Images.{Apart}
use Rattle.h5w_model.specs.Arrays.{SlotPlace, slot_place_of}
use Rattle.h5w_model.specs.declared.piece.Write.{Write}
use Rattle.h5w_model.proofs.ArrayGeometry.{slot_place-stands, slot_place-super}
use Rattle.h5w_space.specs.Space.{Space}
use Rattle.h5w_cache.specs.Blocks.{BlockView}
use Rattle.h5w_cache.specs.Stores.{Store, place_in, times}
use Rattle.h5w_cache.specs.Plans.{IsPlan}
use Rattle.h5w_cache.specs.declared.block.Link.{Link}
use Rattle.h5w_cache.specs.declared.moves.Move.{Move}
use Rattle.h5w_array_laws.specs.Parts.{Part, data_of, secondary_of, index_block, header, IsPart, number_of, length_of, children, names_from, links_from, slot_count, slots_from, holder, slot_offset}
use Rattle.h5w_array_laws.specs.ArrayStores.{IsArray, IsBlock, block_at_part, address_in, map_of, slots_in}
use Rattle.h5w_array_laws.proofs.NumberLemmas.{numbers_in-same}
use Rattle.h5w_array_laws.proofs.LinkLemmas.{AreBeside}
use Rattle.h5w_array_laws.proofs.StoreLemmas.{kept_after}
use Rattle.h5w_array_laws.proofs.KeptLemmas.{some_or_none, some_is, is_some_of, of_some, none_is}
use Rattle.h5w_array_laws.proofs.SpelledLemmas.{links_behind, spelled_range}
use Rattle.h5w_array_laws.proofs.PlannedLemmas.{block_before, clean_same, changed_spelled}

-- a slot lies beside the addresses of other blocks, and before the sum
pub slot_beside : (k : Part) (i : ℕ) → i < slot_count k → AreBeside (links_from (names_from k) (children k)) (slots_from k + 8 * i) 8 × (slots_from k + 8 * i + 8 + 4 ≤ length_of k)
slot_beside (data_of s b) i h = (All-nil (λ (m : Link). Apart m.offset 8 (18 + 8 * i) 8), omega arith)
slot_beside (secondary_of s) i h = absurd (omega arith)
slot_beside index_block i h = (links_behind 46 (children index_block) (14 + 8 * i) 8 (omega arith), omega arith)
slot_beside header i h = absurd (omega arith)

-- the slot of a chunk number, by its number in the block that has it
pub record IsSlot (i : ℕ) : Type 0 where
  pub part : IsPart (holder i)
  pub slot : ℕ
  pub few : slot < slot_count (holder i)
  pub offset : slot_offset i ≡ slots_from (holder i) + 8 * slot

pub slot_known : (i : ℕ) → i < 131060 → IsSlot i
slot_known i low = go (cases_Bool (nat_lt i 4))
  where
    p : SlotPlace
    p = slot_place_of (i - 4)

    go : (nat_lt i 4 ≡ true) ⊎ (nat_lt i 4 ≡ false) → IsSlot i
    go (inl t) =
        let is : holder i ≡ index_block = ap (λ c. cond c index_block (data_of p.sblock p.block)) t in
        record {
          part = subst (λ (k : Part). IsPart k) (sym is) tt;
          slot = i;
          few = subst (λ (k : Part). i < slot_count k) (sym is) (ltb-true i 4 t);
          offset = ap (λ c. cond c (14 + 8 * i) (18 + 8 * p.slot)) t ∙ ap (λ (k : Part). slots_from k + 8 * i) (sym is);
        }
    go (inr t) =
        let far = ltb-false i 4 t in
        let stands = slot_place-stands (i - 4) (omega arith) in
        let is : holder i ≡ data_of p.sblock p.block = ap (λ c. cond c index_block (data_of p.sblock p.block)) t in
        record {
          part = subst (λ (k : Part). IsPart k) (sym is) (slot_place-super (i - 4) (omega arith), stands.block_inside);
          slot = p.slot;
          few = subst (λ (k : Part). p.slot < slot_count k) (sym is) stands.slot_inside;
          offset = ap (λ c. cond c (14 + 8 * i) (18 + 8 * p.slot)) t ∙ ap (λ (k : Part). slots_from k + 8 * p.slot) (sym is);
        }

module _ (v : Store) (s : Space) (ms : List Move) (cs fs : List Write) (w : Store) (t : Space) (p : IsPlan v s ms cs fs w t) (a : IsArray v) where
  -- bytes beside the links stay
  pub bytes_stay : (k : Part) → IsPart k → (b c : BlockView) → block_at_part v k ≡ Some b → block_at_part w k ≡ Some c → (from n : ℕ) → AreBeside (links_from (names_from k) (children k)) from n → from + n + 4 ≤ length_of k
      → range c.bytes from n ≡ range b.bytes from n
  bytes_stay k is b c e f from n beside low =
      let was : IsBlock k b = of_some (IsBlock k) (block_at_part v k) b e (a.each k is) in
      elim (cases_lt 0 (times (number_of k) v.changed)) [
        | inl some ↦
            ap (λ (x : BlockView). range x.bytes from n) (sym (changed_spelled v s ms cs fs w t p a (number_of k) b c e f some))
            ∙ spelled_range (place_in w.places) k b was from n beside low
        | inr none ↦ ap (λ (x : BlockView). range x.bytes from n) (sym (clean_same v s ms cs fs w t p a (number_of k) b c e f (omega arith)))
      ]

  -- a block that is not kept is not kept afterwards
  pub none_stays : (k : Part) → block_at_part v k ≡ None → block_at_part w k ≡ None
  none_stays k e = go (some_or_none (block_at_part w k))
    where
      go : (block_at_part w k ≡ None) ⊎ ((x : BlockView) × (block_at_part w k ≡ Some x)) → block_at_part w k ≡ None
      go (inl h) = h
      go (inr x) = let b = block_before v s ms cs fs w t p a (number_of k) x.0 x.1 in absurd (none_is (block_at_part v k) e (some_is (block_at_part v k) b.0 b.1))

  -- what is said of a block, by whether it is kept
  pub kept_or_not : (Q : Option BlockView → Option BlockView → Type 0) (k : Part) → Q None None
      → ((b c : BlockView) → block_at_part v k ≡ Some b → block_at_part w k ≡ Some c → Q (Some b) (Some c)) → Q (block_at_part v k) (block_at_part w k)
  kept_or_not Q k none both = go (some_or_none (block_at_part v k))
    where
      go : (block_at_part v k ≡ None) ⊎ ((x : BlockView) × (block_at_part v k ≡ Some x)) → Q (block_at_part v k) (block_at_part w k)
      go (inl e) = subst (λ o. Q o (block_at_part w k)) (sym e) (subst (λ o. Q None o) (sym (none_stays k e)) none)
      go (inr x) =
          let c = is_some_of (block_at_part w k) (kept_after v s ms cs fs w t p (number_of k) (some_is (block_at_part v k) x.0 x.1)) in
          subst (λ o. Q o (block_at_part w k)) (sym x.1) (subst (λ o. Q (Some x.0) o) (sym c.1) (both x.0 c.0 x.1 c.1))

  pub slots_stay : (k : Part) → IsPart k → slots_in (block_at_part w k) k ≡ slots_in (block_at_part v k) k
  slots_stay k is =
      kept_or_not (λ o q. slots_in q k ≡ slots_in o k) k refl
      (λ b c e f. numbers_in-same b.bytes c.bytes (slot_count k) (slots_from k) (slots_from k)
      (λ i lt. let x = slot_beside k i lt in ap num (bytes_stay k is b c e f (slots_from k + 8 * i) 8 x.0 x.1)))

  pub address_stays : (k : Part) → IsPart k → (i : ℕ) → i < slot_count k → address_in (block_at_part w k) (slots_from k + 8 * i) ≡ address_in (block_at_part v k) (slots_from k + 8 * i)
  address_stays k is i lt =
      kept_or_not (λ o q. address_in q (slots_from k + 8 * i) ≡ address_in o (slots_from k + 8 * i)) k refl
      (λ b c e f. let x = slot_beside k i lt in ap num (bytes_stay k is b c e f (slots_from k + 8 * i) 8 x.0 x.1))

  pub map_stays : (i : ℕ) → map_of w i ≡ map_of v i
  map_stays i = go (cases_Bool (nat_lt i 131060))
    where
      go : (nat_lt i 131060 ≡ true) ⊎ (nat_lt i 131060 ≡ false) → map_of w i ≡ map_of v i
      go (inl e) =
          let x = slot_known i (ltb-true i 131060 e) in
          ap (λ c. cond c (address_in (block_at_part w (holder i)) (slot_offset i)) undefined) e
          ∙ ap (address_in (block_at_part w (holder i))) x.offset
          ∙ address_stays (holder i) x.part x.slot x.few
          ∙ ap (address_in (block_at_part v (holder i))) (sym x.offset)
          ∙ ap (λ c. cond c (address_in (block_at_part v (holder i)) (slot_offset i)) undefined) (sym e)
      go (inr e) =
          ap (λ c. cond c (address_in (block_at_part w (holder i)) (slot_offset i)) undefined) e
          ∙ ap (λ c. cond c (address_in (block_at_part v (holder i)) (slot_offset i)) undefined) (sym e)
