-- What the blocks on the way to a slot, an address that is set and the six numbers come to.
use Rattle.std.proofs.Common.{◌≡◌, ◌≢◌, inl, inr, ℕ, ◌+◌, ◌-◌, ◌*◌, ◌^◌, ◌<◌, ◌≤◌, Bool, List, [], ◌∷◌, length, map, get_or, replicate, true, false, max, min, refl, sym, ap, subst, ◌∙◌, arith, eq-eqb, ne_eqb}
use Rattle.std.proofs.lemmas.Bool.{cases_eq, cases_lt, cases_Bool}
use Rattle.std.proofs.lemmas.Bool.Decides.{nat_tests}
use Rattle.std.proofs.lemmas.List.{get_or-set_same, get_or-set_other}
use Rattle.std.specs.Prelude.{Option, Some, None, IsSome, IfSome, is_some, cond, nat_lt, ◌==◌}
use Rattle.std.proofs.lemmas.List.Elements.{All-head, All-tail}
use Rattle.std.proofs.lemmas.Option.{IfSome_then}
use Rattle.std.specs.List.{All}
use Rattle.h5w_model.specs.Numbers.{undefined, field}
use Rattle.h5w_model.specs.Arrays.{numbers_in}
use Rattle.h5w_model.proofs.ArrayLemmas.{length-numbers_in}
use Rattle.h5w_cache.specs.Blocks.{BlockView, numbered}
use Rattle.h5w_cache.specs.Plans.{bytes_of}
use Rattle.h5w_cache.specs.Stores.{Store, block_of, place_of, is_changed, changed_to, marked, kept_under, times}
use Rattle.h5w_model.specs.Findings.{Used}
use Rattle.h5w_step_laws.specs.Ranges.{chunk_at}
use Rattle.h5w_array_laws.specs.Among.{AreAmong}
use Rattle.h5w_array_laws.specs.Parts.{Part, data_of, secondary_of, index_block, header, IsPart, number_of, length_of, children, slot_count, holder, slot_offset, visit_order, parent, stays_in_place}
use Rattle.h5w_array_laws.specs.ArrayStores.{IsArray, IsNumbered, IsMaxSet, block_at_part, place_at_part, header_place, address_in, map_of, total, one_secondary, one_data, secondary_bytes, data_bytes, behind_of}
use Rattle.h5w_array_laws.proofs.KeptLemmas.{is_some_of, of_some}
use Rattle.h5w_ea_index.specs.Steps.{IsHeld, IsSet, IsSlotOrHeader, OnWay, Touches}
use Rattle.h5w_ea_index.specs.Counts.{IsCounted, with_at, more_at}
use Rattle.h5w_ea_index.specs.Reach.{max_index_set, six, number_at}
use Rattle.h5w_ea_index.specs.Fresh.{IsFresh}
use Rattle.h5w_ea_index.proofs.ByteLemmas.{get_or-numbers_in}
use Rattle.h5w_ea_index.proofs.PartLemmas.{held_at, IsHeldAt, part_parent, are_children, slots_fit}
use Rattle.h5w_ea_index.proofs.StoreLemmas.{marked-is, set-same, set-other, marks}
use Rattle.h5w_ea_index.proofs.ArrayLemmas.{Suits, MayAdd, added, added_as, added-is, added_array, part_inside, marked_array, changed_array}
use Rattle.h5w_ea_index.proofs.StepLemmas.{held_onward, held_marked, held_added, is_marked, is_added}
use Rattle.h5w_ea_index.proofs.TouchLemmas.{own_way, touch_added, touch_changed, touch_marked, touch_more, touch_onward}
use Rattle.h5w_ea_index.proofs.SetLemmas.{MaySet, with_set, set_from, set_suits, suits_set}
use Rattle.h5w_ea_index.proofs.CountLemmas.{IsHeader, six_written, IsMore, total_more, total_same, data_once, secondary_once, below_that, secondaries_few, secondary_bytes_few, data_few, data_bytes_few, slots_few, counted_onward, holder_other}

-- ---- The six numbers

-- the header as it is kept
pub header_kept : (v : Store) → IsArray v → is_changed v 846 ≡ true → (b : BlockView) × IsHeader v b
header_kept v a h = let k = is_some_of (block_of v 846) (a.in_place header tt refl).0 in (k.0, record { array = a; is = k.1; changed = h })

pub read_is : (v : Store) (b : BlockView) (i : ℕ) → block_of v 846 ≡ Some b → i < 6 → field b.bytes (12 + 8 * i) 8 ≡ number_at i v
read_is v b i e lt = sym (get_or-numbers_in b.bytes 6 12 i 0 lt) ∙ ap (λ o. get_or (numbers_in (bytes_of o) 6 12) i 0) (sym e)

pub written_from : (v w : Store) (i x : ℕ) → IsArray v → is_changed v 846 ≡ true → i < 6 → x < 2 ^ 64 → IfSome (block_of v 846) (λ b. w ≡ changed_to 846 (numbered (12 + 8 * i) x b) v) → IsCounted (with_at i x (six v)) v w
written_from v w i x a h lt fits e =
    let k = header_kept v a h in
    subst (IsCounted (with_at i x (six v)) v) (sym (of_some (λ b. w ≡ changed_to 846 (numbered (12 + 8 * i) x b) v) (block_of v 846) k.0 k.1.is e)) (six_written v k.0 i x k.1 lt fits)

pub counted_two : (f g : List ℕ → List ℕ) (u v w : Store) → IsCounted (f (six u)) u v → IsCounted (g (six v)) v w → IsCounted (g (f (six u))) u w
counted_two f g u v w a b = subst (λ l. IsCounted (g l) u w) a.six (counted_onward (f (six u)) (g (six v)) u v w a b)

-- ---- A block is made

pub none_from : (o : Option BlockView) → is_some o ≡ false → o ≡ None
none_from None h = refl
none_from (Some b) h = absurd (cc)

pub first_parent : (s b : ℕ) → s < 4 → parent (data_of s b) ≡ index_block
first_parent s b lt = let e : nat_lt s 4 ≡ true = grind (arith, nat_tests) in ap (λ t. cond t index_block (secondary_of s)) e

pub second_parent : (s b : ℕ) → 4 ≤ s → parent (data_of s b) ≡ secondary_of s
second_parent s b ge = let e : nat_lt s 4 ≡ false = grind (arith, nat_tests) in ap (λ t. cond t index_block (secondary_of s)) e

pub top_changed : (v : Store) (k : Part) → IsPart k → IsArray v → is_changed v (number_of k) ≡ true → is_changed v 846 ≡ true
top_changed v (data_of s b) p a h =
    elim (cases_lt s 4) [
      | inl lt ↦ a.marked index_block tt (subst (λ k. is_changed v (number_of k) ≡ true) (first_parent s b lt) (a.marked (data_of s b) p h))
      | inr ge ↦ a.marked index_block tt (a.marked (secondary_of s) (ge, p.0) (subst (λ k. is_changed v (number_of k) ≡ true) (second_parent s b ge) (a.marked (data_of s b) p h)))
    ]
top_changed v (secondary_of s) p a h = a.marked index_block tt (a.marked (secondary_of s) p h)
top_changed v index_block p a h = a.marked index_block tt h
top_changed v header p a h = h

-- a block is kept under the number of a part that none was kept for
pub record Making (v u : Store) (k : Part) (b : BlockView) : Type 0 where
  pub part : IsPart k
  pub array : IsArray v
  pub none : block_at_part v k ≡ None
  pub up : is_changed v (number_of (parent k)) ≡ true
  pub fresh : IsFresh (header_place v) k b
  pub is : u ≡ added (number_of k) b v

pub not_changed : (v : Store) (k : Part) → IsArray v → block_at_part v k ≡ None → is_changed v (number_of k) ≡ false
not_changed v k a none = elim (cases_Bool (is_changed v (number_of k))) [ inl e ↦ absurd (let h = a.kept (number_of k) e in let t : is_some (block_at_part v k) ≡ false = ap is_some none in cc) | inr e ↦ e ]

making_may : (v u : Store) (k : Part) (b : BlockView) → Making v u k b → MayAdd v k
making_may v u k b m = record { part = m.part; array = m.array; none = m.none; up = m.up }

-- what it would name is not kept
child_unplaced : (v : Store) (k c : Part) → IsArray v → block_at_part v k ≡ None → IsPart c → parent c ≡ k → place_at_part v c ≡ undefined
child_unplaced v k c a none p e =
    elim (cases_Bool (is_some (block_at_part v c))) [
      | inl some ↦ absurd (let h : IsSome (block_at_part v k) = subst (λ x. IsSome (block_at_part v x)) e (a.held c p some) in let t : is_some (block_at_part v k) ≡ false = ap is_some none in cc)
      | inr no_block ↦ a.unplaced c p (none_from (block_at_part v c) no_block)
    ]

all_unplaced : (v : Store) (cs : List Part) → All (λ (c : Part). place_at_part v c ≡ undefined) cs → map (place_at_part v) cs ≡ replicate (length cs) undefined
all_unplaced v [] h = refl
all_unplaced v (c ∷ cs) h = λ i. All-head (λ (c : Part). place_at_part v c ≡ undefined) c cs h i ∷ all_unplaced v cs (All-tail (λ (c : Part). place_at_part v c ≡ undefined) c cs h) i

making_suits : (v u : Store) (k : Part) (b : BlockView) → Making v u k b → Suits v k b
making_suits v u k b m = record {
  block = m.fresh.block;
  names = m.fresh.unnamed ∙ sym (all_unplaced v (children k) (λ i d lt. let c = are_children k m.part i d lt in child_unplaced v k (get_or (children k) i d) m.array m.none c.part c.parent));
}

pub making_array : (v u : Store) (k : Part) (b : BlockView) → Making v u k b → IsArray u
making_array v u k b m = subst IsArray (sym m.is) (added_array v k b (making_may v u k b m) (making_suits v u k b m))

pub making_held : (v u : Store) (k : Part) (b : BlockView) → Making v u k b → IsHeld v u
making_held v u k b m = subst (IsHeld v) (sym m.is) (held_added v k b (making_may v u k b m) m.fresh.empty m.fresh.head)

pub making_changed : (v u : Store) (k : Part) (b : BlockView) → Making v u k b → is_changed u (number_of k) ≡ true
making_changed v u k b m = ap (λ (s : Store). is_changed s (number_of k)) m.is ∙ is_added v (number_of k) b

pub making_top : (v u : Store) (k : Part) (b : BlockView) → Making v u k b → is_changed u 846 ≡ true
making_top v u k b m = (making_held v u k b m).marks 846 (top_changed v (parent k) (part_parent k m.part) m.array m.up)

making_as : (v u : Store) (k : Part) (b : BlockView) → Making v u k b → u ≡ added_as (number_of k) b v
making_as v u k b m = m.is ∙ added-is (number_of k) b v

making_more : (v u : Store) (k : Part) (b : BlockView) → Making v u k b → IsMore v u k
making_more v u k b m = record {
  none = ap is_some m.none;
  some = ap (λ (s : Store). is_some (block_of s (number_of k))) (making_as v u k b m) ∙ ap is_some (set-same v.blocks (number_of k) b (part_inside v k m.part m.array));
  others = λ n ne. ap (λ (s : Store). is_some (block_of s n)) (making_as v u k b m) ∙ ap is_some (set-other v.blocks (number_of k) n b (λ e. ne (sym e)));
}

pub making_six : (v u : Store) (k : Part) (b : BlockView) → Making v u k b → six u ≡ six v
making_six v u k b m =
    let ne : number_of k ≢ 846 = λ e. absurd (let t : is_some (block_of v (number_of k)) ≡ false = ap is_some m.none in let h : IsSome (block_of v (number_of k)) = subst (λ n. IsSome (block_of v n)) (sym e) (m.array.in_place header tt refl).0 in cc) in
    ap (λ (s : Store). six s) (making_as v u k b m) ∙ ap (λ o. numbers_in (bytes_of o) 6 12) (set-other v.blocks (number_of k) 846 b ne)

pub max_same : (v w : Store) (m : ℕ) → ((i : ℕ) → map_of w i ≡ map_of v i) → IsMaxSet v m → IsMaxSet w m
max_same v w m e h = record {
  above = λ i d. h.above i (λ u. d (e i ∙ u));
  least = elim h.least [ inl z ↦ inl z | inr d ↦ inr (λ u. d (sym (e (m - 1)) ∙ u)) ];
}

-- a block of a weight is counted
total_made : (weight : Part → ℕ) (v u w : Store) (k : Part) (b : BlockView) → Making v u k b → times (number_of k) (map number_of visit_order) ≡ 1 → ((n : ℕ) → is_some (block_of w n) ≡ is_some (block_of u n)) → total weight v + weight k ≡ total weight w
total_made weight v u w k b m once kept = sym (total_same weight u w kept ∙ total_more weight v u k m.part once (making_more v u k b m))

pub data_numbered : (v u w : Store) (s n len slots : ℕ) (b : BlockView) → Making v u (data_of s n) b → IsNumbered v → len ≡ length_of (data_of s n) → slots ≡ slot_count (data_of s n) → IsCounted (more_at 5 slots (more_at 3 len (more_at 2 1 (six u)))) u w → IsNumbered w
data_numbered v u w s n len slots b m h el es c =
    let k : Part = data_of s n in
    let once = data_once s n m.part in
    let t0 = total_made one_secondary v u w k b m once c.kept in
    let t1 = total_made secondary_bytes v u w k b m once c.kept in
    let t2 = total_made one_data v u w k b m once c.kept in
    let t3 = total_made data_bytes v u w k b m once c.kept in
    let t5 = total_made slot_count v u w k b m once c.kept in
    let b2 = below_that one_data w data_few in
    let b3 = below_that data_bytes w data_bytes_few in
    let b5 = below_that slot_count w slots_few in
    let e0 : total one_secondary v ≡ total one_secondary w = omega arith in
    let e1 : total secondary_bytes v ≡ total secondary_bytes w = omega arith in
    let e2 : min (total one_data v + 1) (2 ^ 64 - 1) ≡ total one_data w = omega arith in
    let e3 : min (total data_bytes v + len) (2 ^ 64 - 1) ≡ total data_bytes w = omega arith in
    let e5 : min (4 + total slot_count v + slots) (2 ^ 64 - 1) ≡ 4 + total slot_count w = omega arith in
    record {
      max = h.max;
      greatest = max_same v w h.max (λ i. c.held.map i ∙ (making_held v u k b m).map i) h.greatest;
      six = c.six ∙ ap (λ l. more_at 5 slots (more_at 3 len (more_at 2 1 l))) (making_six v u k b m ∙ h.six) ∙ (λ i. e0 i ∷ e1 i ∷ e2 i ∷ e3 i ∷ h.max ∷ e5 i ∷ []);
    }

pub secondary_numbered : (v u w : Store) (s len : ℕ) (b : BlockView) → Making v u (secondary_of s) b → IsNumbered v → len ≡ length_of (secondary_of s) → IsCounted (more_at 1 len (more_at 0 1 (six u))) u w → IsNumbered w
secondary_numbered v u w s len b m h el c =
    let k : Part = secondary_of s in
    let once = secondary_once s m.part in
    let t0 = total_made one_secondary v u w k b m once c.kept in
    let t1 = total_made secondary_bytes v u w k b m once c.kept in
    let t2 = total_made one_data v u w k b m once c.kept in
    let t3 = total_made data_bytes v u w k b m once c.kept in
    let t5 = total_made slot_count v u w k b m once c.kept in
    let b0 = below_that one_secondary w secondaries_few in
    let b1 = below_that secondary_bytes w secondary_bytes_few in
    let e0 : min (total one_secondary v + 1) (2 ^ 64 - 1) ≡ total one_secondary w = omega arith in
    let e1 : min (total secondary_bytes v + len) (2 ^ 64 - 1) ≡ total secondary_bytes w = omega arith in
    let e2 : total one_data v ≡ total one_data w = omega arith in
    let e3 : total data_bytes v ≡ total data_bytes w = omega arith in
    let e5 : 4 + total slot_count v ≡ 4 + total slot_count w = omega arith in
    record {
      max = h.max;
      greatest = max_same v w h.max (λ i. c.held.map i ∙ (making_held v u k b m).map i) h.greatest;
      six = c.six ∙ ap (λ l. more_at 1 len (more_at 0 1 l)) (making_six v u k b m ∙ h.six) ∙ (λ i. e0 i ∷ e1 i ∷ e2 i ∷ e3 i ∷ h.max ∷ e5 i ∷ []);
    }

-- ---- Marks

numbered_remarked : (v : Store) (d : List ℕ) → IsNumbered v → IsNumbered (record v { changed = d })
numbered_remarked v d h = record { max = h.max; greatest = record { above = h.greatest.above; least = h.greatest.least }; six = h.six }

pub numbered_marked : (v : Store) (n : ℕ) → IsNumbered v → IsNumbered (marked n v)
numbered_marked v n h = subst IsNumbered (sym (marked-is n v)) (numbered_remarked v (marks n v.changed) h)

pub marked_kept : (v : Store) (n m : ℕ) → IsSome (block_of v m) → IsSome (block_of (marked n v) m)
marked_kept v n m h = subst (λ (s : Store). IsSome (block_of s m)) (sym (marked-is n v)) h

-- a part that is kept is marked, whose parent is changed
pub record Marking (v w : Store) (k : Part) : Type 0 where
  pub part : IsPart k
  pub copy : stays_in_place k ≡ false
  pub array : IsArray v
  pub kept : IsSome (block_at_part v k)
  pub up : is_changed v (number_of (parent k)) ≡ true
  pub is : w ≡ marked (number_of k) v

pub marking_array : (v w : Store) (k : Part) → Marking v w k → IsArray w
marking_array v w k m = subst IsArray (sym m.is) (marked_array v k m.part (λ e. let t : stays_in_place k ≡ true = ap stays_in_place e in absurd (let f = m.copy in cc)) m.array m.kept m.up)

pub marking_numbered : (v w : Store) (k : Part) → Marking v w k → IsNumbered v → IsNumbered w
marking_numbered v w k m h = subst IsNumbered (sym m.is) (numbered_marked v (number_of k) h)

pub marking_held : (v w : Store) (k : Part) → Marking v w k → IsHeld v w
marking_held v w k m = subst (IsHeld v) (sym m.is) (held_marked v (number_of k))

pub marking_changed : (v w : Store) (k : Part) → Marking v w k → is_changed w (number_of k) ≡ true
marking_changed v w k m = ap (λ (s : Store). is_changed s (number_of k)) m.is ∙ is_marked v (number_of k)

-- header and index block
pub both_held : (v : Store) → IsHeld v (marked 845 (marked 846 v))
both_held v = held_onward v (marked 846 v) (marked 845 (marked 846 v)) (held_marked v 846) (held_marked (marked 846 v) 845)

-- ---- An address is set

pub set_then : (i x : ℕ) (u v w : Store) → IsSet i x u v → IsHeld v w → IsSet i x u w
set_then i x u v w a b = record {
  map = λ j. b.map j ∙ a.map j;
  behind = λ n. subst (λ (l : List Used). AreAmong l (chunk_at x n ∷ behind_of n u)) (sym (b.behind n)) (a.behind n);
  places = λ n. b.places n ∙ a.places n;
  standing = λ s h. b.standing s (a.standing s h);
  stands = λ img h. b.stands img (a.stands img h);
  marks = λ n h. b.marks n (a.marks n h);
  headed = λ h. b.headed (a.headed h);
}

-- what the code knows where it sets an address
pub record Setting (v u : Store) (i x : ℕ) : Type 0 where
  pub below : i < 131060
  pub fits : x < 2 ^ 64
  pub array : IsArray v
  pub changed : is_changed v (number_of (holder i)) ≡ true
  pub is : IfSome (block_at_part v (holder i)) (λ b. u ≡ with_set v i x b)

pub setting_block : (v u : Store) (i x : ℕ) → Setting v u i x → (b : BlockView) × MaySet v i x b × (u ≡ with_set v i x b)
setting_block v u i x s =
    let k = is_some_of (block_at_part v (holder i)) (s.array.kept (number_of (holder i)) s.changed) in
    (k.0, record { below = s.below; fits = s.fits; array = s.array; changed = s.changed; is = k.1 }, of_some (λ b. u ≡ with_set v i x b) (block_at_part v (holder i)) k.0 k.1 s.is)

pub setting_array : (v u : Store) (i x : ℕ) → Setting v u i x → IsArray u
setting_array v u i x s =
    let k = setting_block v u i x s in
    subst IsArray (sym k.2) (changed_array v (holder i) (numbered (slot_offset i) x k.0) (held_at i s.below).part s.array s.changed (suits_set v i x k.0 s.below (set_suits v i x k.0 k.1)))

pub setting_set : (v u : Store) (i x : ℕ) → Setting v u i x → IsSet i x v u
setting_set v u i x s = let k = setting_block v u i x s in subst (IsSet i x v) (sym k.2) (set_from v i x k.0 k.1)

setting_other : (v u : Store) (i x n : ℕ) → Setting v u i x → n ≢ number_of (holder i) → block_of u n ≡ block_of v n
setting_other v u i x n s ne =
    let k = setting_block v u i x s in
    ap (λ (t : Store). block_of t n) k.2 ∙ set-other v.blocks (number_of (holder i)) n (numbered (slot_offset i) x k.0) (λ e. ne (sym e))

pub setting_top : (v u : Store) (i x : ℕ) → Setting v u i x → is_changed u 846 ≡ true
setting_top v u i x s = (setting_set v u i x s).marks 846 (top_changed v (holder i) (held_at i s.below).part s.array s.changed)

pub setting_six : (v u : Store) (i x : ℕ) → Setting v u i x → six u ≡ six v
setting_six v u i x s = ap (λ o. numbers_in (bytes_of o) 6 12) (setting_other v u i x 846 s (holder_other i s.below))

pub setting_kept : (v u : Store) (i x n : ℕ) → Setting v u i x → is_some (block_of u n) ≡ is_some (block_of v n)
setting_kept v u i x n s =
    elim (cases_eq n (number_of (holder i))) [
      | inl e ↦
          let k = setting_block v u i x s in
          let inside = part_inside v (holder i) (held_at i s.below).part s.array in
          let here : is_some (block_of u (number_of (holder i))) ≡ true = ap (λ (t : Store). is_some (block_of t (number_of (holder i)))) k.2 ∙ ap is_some (set-same v.blocks (number_of (holder i)) (numbered (slot_offset i) x k.0) inside) in
          let was : is_some (block_of v (number_of (holder i))) ≡ true = s.array.kept (number_of (holder i)) s.changed in
          ap (λ m. is_some (block_of u m)) e ∙ here ∙ sym was ∙ ap (λ m. is_some (block_of v m)) (sym e)
      | inr ne ↦ ap is_some (setting_other v u i x n s ne)
    ]

-- the greatest chunk number with an address once this one has one
max_set : (v u w : Store) (i x m : ℕ) → x ≢ undefined → IsSet i x v u → IsHeld u w → IsMaxSet v m → IsMaxSet w (max m (i + 1))
max_set v u w i x m some s h g =
    let at : (j : ℕ) → map_of w j ≡ cond (j == i) x (map_of v j) = λ j. h.map j ∙ s.map j in
    let here : map_of w i ≡ x = at i ∙ ap (λ t. cond t x (map_of v i)) (eq-eqb i i refl) in
    let there : (j : ℕ) → j ≢ i → map_of w j ≡ map_of v j = λ j ne. at j ∙ ap (λ t. cond t x (map_of v j)) (ne_eqb j i ne) in
    record {
      above = λ j d. elim (cases_eq j i) [ inl e ↦ omega arith | inr ne ↦ let b = g.above j (λ u. d (there j ne ∙ u)) in omega arith ];
      least = elim (cases_lt m (i + 1)) [
        | inl lt ↦ let e : max m (i + 1) ≡ i + 1 = omega arith in inr (λ u. some (sym here ∙ ap (map_of w) (let f : i ≡ max m (i + 1) - 1 = omega arith in f) ∙ u))
        | inr ge ↦
            let e : max m (i + 1) ≡ m = omega arith in
            elim g.least [
              | inl z ↦ absurd (omega arith)
              | inr d ↦
                  elim (cases_eq (m - 1) i) [
                    | inl f ↦ inr (λ u. some (sym here ∙ ap (map_of w) (let k : i ≡ max m (i + 1) - 1 = omega arith in k) ∙ u))
                    | inr ne ↦ inr (λ u. d (sym (there (m - 1) ne) ∙ ap (map_of w) (let k : m - 1 ≡ max m (i + 1) - 1 = omega arith in k) ∙ u))
                  ]
            ]
      ];
    }

pub setting_numbered : (v u w : Store) (i x : ℕ) → Setting v u i x → IsNumbered v → x ≢ undefined → IsCounted (with_at 4 (max (number_at 4 u) (i + 1)) (six u)) u w → IsNumbered w
setting_numbered v u w i x s h some c =
    let e : six u ≡ total one_secondary v ∷ total secondary_bytes v ∷ total one_data v ∷ total data_bytes v ∷ h.max ∷ (4 + total slot_count v) ∷ [] = setting_six v u i x s ∙ h.six in
    let kept : (n : ℕ) → is_some (block_of w n) ≡ is_some (block_of v n) = λ n. c.kept n ∙ setting_kept v u i x n s in
    let same : (weight : Part → ℕ) → total weight v ≡ total weight w = λ weight. sym (total_same weight v w kept) in
    record {
      max = max h.max (i + 1);
      greatest = max_set v u w i x h.max some (setting_set v u i x s) c.held h.greatest;
      six = c.six ∙ ap (λ l. with_at 4 (max (get_or l 4 0) (i + 1)) l) e
          ∙ (λ t. same one_secondary t ∷ same secondary_bytes t ∷ same one_data t ∷ same data_bytes t ∷ max h.max (i + 1) ∷ (4 + same slot_count t) ∷ []);
    }

-- the slot lies in its block
pub slot_inside : (v : Store) (i : ℕ) → i < 131060 → IsArray v → IfSome (block_at_part v (holder i)) (λ b. slot_offset i + 8 ≤ length b.bytes)
slot_inside v i lt a =
    let h : IsHeldAt i = held_at i lt in
    IfSome_then (block_at_part v (holder i)) (a.each (holder i) h.part) (λ b s. let f = slots_fit (holder i) h.part in let o = h.offset in let j = h.inside in let l = s.len in omega arith)

pub map_low : (v : Store) (i : ℕ) → i < 131060 → map_of v i ≡ address_in (block_at_part v (holder i)) (slot_offset i)
map_low v i lt = let t : nat_lt i 131060 ≡ true = grind (arith, nat_tests) in ap (λ b. cond b (address_in (block_at_part v (holder i)) (slot_offset i)) undefined) t

pub made_from : (v u : Store) (k : Part) (b : BlockView) (n at : ℕ) → IsPart k → IsArray v → block_at_part v k ≡ None → is_changed v (number_of (parent k)) ≡ true → IsFresh at k b → at ≡ place_of v 846 → n ≡ number_of k → u ≡ marked n (kept_under n b undefined v)
    → Making v u k b
made_from v u k b n at part array none up fresh here number is = record {
  part = part;
  array = array;
  none = none;
  up = up;
  fresh = subst (λ p. IsFresh p k b) here fresh;
  is = is ∙ ap (λ m. added m b v) number;
}

pub marking_from : (v w : Store) (k : Part) (n : ℕ) (kept : Bool) → IsPart k → stays_in_place k ≡ false → IsArray v → kept ≡ is_some (block_of v n) → kept ≡ true → is_changed v (number_of (parent k)) ≡ true → n ≡ number_of k → w ≡ marked n v → Marking v w k
marking_from v w k n kept part copy array tells is_kept up number is = record {
  part = part;
  copy = copy;
  array = array;
  kept = ap (λ m. is_some (block_of v m)) (sym number) ∙ sym tells ∙ is_kept;
  up = up;
  is = is ∙ ap (λ m. marked m v) number;
}

pub none_at : (v : Store) (k : Part) (n : ℕ) (kept : Bool) → kept ≡ is_some (block_of v n) → kept ≡ false → n ≡ number_of k → block_at_part v k ≡ None
none_at v k n kept tells not_kept number = none_from (block_at_part v k) (ap (λ m. is_some (block_of v m)) (sym number) ∙ sym tells ∙ not_kept)

pub clean_at : (v : Store) (k : Part) (n : ℕ) → IsArray v → block_at_part v k ≡ None → n ≡ number_of k → is_changed v n ≡ false
clean_at v k n a none number = ap (is_changed v) number ∙ not_changed v k a none

-- ---- What the code of an address knows

pub holder_part : (i : ℕ) (k : Part) → k ≡ holder i → i < 131060 → IsPart k
holder_part i k e lt = subst IsPart (sym e) (held_at i lt).part

pub read_fits : (v : Store) (i n o : ℕ) (k : Part) → i < 131060 → IsArray v → k ≡ holder i → n ≡ number_of k → o ≡ slot_offset i → IfSome (block_of v n) (λ b. o + 8 ≤ length b.bytes)
read_fits v i n o k lt a e f g =
    subst (λ m. IfSome (block_of v m) (λ b. o + 8 ≤ length b.bytes)) (sym (f ∙ ap number_of e))
    (subst (λ p. IfSome (block_at_part v (holder i)) (λ b. p + 8 ≤ length b.bytes)) (sym g) (slot_inside v i lt a))

pub setting_from : (v u : Store) (i x n o : ℕ) (k : Part) → i < 131060 → x < 2 ^ 64 → IsArray v → is_changed v (number_of (holder i)) ≡ true → k ≡ holder i → n ≡ number_of k → o ≡ slot_offset i
    → IfSome (block_of v n) (λ b. u ≡ changed_to n (numbered o x b) v) → Setting v u i x
setting_from v u i x n o k lt fits a changed e f g is = record {
  below = lt;
  fits = fits;
  array = a;
  changed = changed;
  is = subst (λ m. IfSome (block_of v m) (λ b. u ≡ changed_to m (numbered (slot_offset i) x b) v)) (f ∙ ap number_of e) (subst (λ p. IfSome (block_of v n) (λ b. u ≡ changed_to n (numbered p x b) v)) g is);
}

-- ---- What is left as it is

pub making_way : (v u : Store) (k : Part) (b : BlockView) → Making v u k b → Touches (OnWay k) v u
making_way v u k b m = own_way k v u (touch_added v u (number_of k) b m.is)

pub marking_way : (v w : Store) (k : Part) → Marking v w k → Touches (OnWay k) v w
marking_way v w k m = own_way k v w (subst (Touches (λ n. n ≡ number_of k) v) (sym m.is) (touch_marked v (number_of k)))

pub setting_way : (v u w : Store) (i x : ℕ) → Setting v u i x → Touches (λ n. n ≡ number_of header) u w → Touches (IsSlotOrHeader i) v w
setting_way v u w i x s h =
    let k = setting_block v u i x s in
    touch_onward (IsSlotOrHeader i) v u w
    (touch_more (λ n. n ≡ number_of (holder i)) (IsSlotOrHeader i) v u (λ n e. inl e) (subst (Touches (λ n. n ≡ number_of (holder i)) v) (sym k.2) (touch_changed v (number_of (holder i)) (numbered (slot_offset i) x k.0))))
    (touch_more (λ n. n ≡ number_of header) (IsSlotOrHeader i) u w (λ n e. inr e) h)

-- ---- The max index set

top_marked : (v : Store) (n : ℕ) → max_index_set (marked n v) ≡ max_index_set v
top_marked v n = ap (λ (s : Store). max_index_set s) (marked-is n v)

pub top_both : (v : Store) → max_index_set (marked 845 (marked 846 v)) ≡ max_index_set v
top_both v = top_marked (marked 846 v) 845 ∙ top_marked v 846

pub marking_reach : (v w : Store) (k : Part) → Marking v w k → max_index_set w ≡ max_index_set v
marking_reach v w k m = ap (λ (s : Store). max_index_set s) m.is ∙ top_marked v (number_of k)

other_number : (l : List ℕ) (i n : ℕ) → 4 ≢ i → get_or (more_at i n l) 4 0 ≡ get_or l 4 0
other_number l i n ne = get_or-set_other l i 4 (min (get_or l i 0 + n) (2 ^ 64 - 1)) 0 ne

making_top_number : (v u : Store) (k : Part) (b : BlockView) → Making v u k b → max_index_set u ≡ max_index_set v
making_top_number v u k b m = ap (λ l. get_or l 4 0) (making_six v u k b m)

pub data_reach : (v u w : Store) (k : Part) (b : BlockView) (len slots : ℕ) → Making v u k b → IsCounted (more_at 5 slots (more_at 3 len (more_at 2 1 (six u)))) u w → max_index_set w ≡ max_index_set v
data_reach v u w k b len slots m c =
    ap (λ l. get_or l 4 0) c.six
    ∙ other_number (more_at 3 len (more_at 2 1 (six u))) 5 slots (λ e. absurd (omega (arith, e)))
    ∙ other_number (more_at 2 1 (six u)) 3 len (λ e. absurd (omega (arith, e)))
    ∙ other_number (six u) 2 1 (λ e. absurd (omega (arith, e)))
    ∙ making_top_number v u k b m

pub secondary_reach : (v u w : Store) (k : Part) (b : BlockView) (len : ℕ) → Making v u k b → IsCounted (more_at 1 len (more_at 0 1 (six u))) u w → max_index_set w ≡ max_index_set v
secondary_reach v u w k b len m c =
    ap (λ l. get_or l 4 0) c.six
    ∙ other_number (more_at 0 1 (six u)) 1 len (λ e. absurd (omega (arith, e)))
    ∙ other_number (six u) 0 1 (λ e. absurd (omega (arith, e)))
    ∙ making_top_number v u k b m

-- the max index set is written
pub top_written : (u w : Store) (n : ℕ) → IsCounted (with_at 4 n (six u)) u w → max_index_set w ≡ n
top_written u w n c = let len = length-numbers_in (bytes_of (block_of u 846)) 6 12 in ap (λ l. get_or l 4 0) c.six ∙ get_or-set_same (six u) 4 n 0 (omega (arith, len))

pub setting_top_number : (v u : Store) (i x : ℕ) → Setting v u i x → max_index_set u ≡ max_index_set v
setting_top_number v u i x s = ap (λ l. get_or l 4 0) (setting_six v u i x s)

-- the number is raised, where a call before left it
pub raised_reach : (v u w : Store) (count : ℕ) → max_index_set u ≡ max_index_set v → IsCounted (with_at 4 (max (number_at 4 u) count) (six u)) u w → max_index_set w ≡ max (max_index_set v) count
raised_reach v u w count top c = top_written u w (max (number_at 4 u) count) c ∙ ap (λ n. max n count) top

pub setting_reach : (v u w : Store) (i x : ℕ) → Setting v u i x → IsCounted (with_at 4 (max (number_at 4 u) (i + 1)) (six u)) u w → max_index_set w ≡ max (max_index_set v) (i + 1)
setting_reach v u w i x s c = raised_reach v u w (i + 1) (setting_top_number v u i x s) c

-- of an array whose numbers are true each chunk with an address is reached
pub numbered_reach : (v : Store) (i : ℕ) → IsNumbered v → map_of v i ≢ undefined → i < max_index_set v
numbered_reach v i h there = let b = h.greatest.above i there in let e : max_index_set v ≡ h.max = ap (λ l. get_or l 4 0) h.six in omega (arith, b, e)
