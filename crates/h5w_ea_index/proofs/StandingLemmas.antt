-- Where a check of the index finds nothing, each block that was loaded stands on the image.
use Rattle.std.proofs.Common.{◌≡◌, ◌≢◌, inl, inr, ℕ, ◌+◌, ◌-◌, ◌*◌, ◌<◌, ◌≤◌, false, List, [], ◌++◌, length, map, get_or, Ok, Err, refl, sym, ap, subst, ◌∙◌, arith, ne_eqb}
use Rattle.std.proofs.lemmas.Bool.{cases_lt, cond-false}
use Rattle.std.specs.Prelude.{Some, None, IsSome, ◌==◌, codes}
use Rattle.h5w_model.specs.Numbers.{range, undefined}
use Rattle.h5w_model.specs.Images.{At}
use Rattle.h5w_model.specs.Blocks.{block_tests}
use Rattle.h5w_model.specs.Programs.{ret, eval}
use Rattle.h5w_model.specs.Arrays.{IsSlotPlace, SlotPlace, SlotsFields, array_tests, blocks_before, eadb_at, easb_at, eaib_fields, numbers_in, slot_place_of, slots_fields, slots_len, super_block_of}
use Rattle.h5w_model.specs.Datasets.{Described}
use Rattle.h5w_model.specs.Tables.{in_array, in_place, super_block_of_first}
use Rattle.h5w_model.specs.Findings.{Used, Visited, block_in, both, chunk_bytes, chunk_ranges, data_block_visit, secondary_block_visit, first_visits, found, second_visits, visit_each}
use Rattle.h5w_model.specs.declared.cell.IndexKind.TheVariants.{Array}
use Rattle.h5w_model.proofs.ArrayLemmas.{length-numbers_in}
use Rattle.h5w_model.proofs.ArrayGeometry.{slot_place-stands}
use Rattle.h5w_model.proofs.CheckedLemmas.{checked-passed}
use Rattle.h5w_laws.proofs.ReachLemmas.{block_ok, both_ok, each_ok, first_ok, second_ok}
use Rattle.h5w_laws.proofs.ResultLemmas.{HasAnswer, choice_ok}
use Rattle.h5w_step_laws.specs.Indexes.{IsIndex, behind_visit}
use Rattle.h5w_cache.specs.Blocks.{BlockView}
use Rattle.h5w_cache.specs.Plans.{bytes_of, bytes_in}
use Rattle.h5w_cache.specs.Stores.{Store, block_of, place_of}
use Rattle.h5w_cache.specs.StoreLaws.{AreThere}
use Rattle.h5w_array_laws.specs.Parts.{Part, data_of, secondary_of, index_block, header, IsPart, number_of, data_blocks_of, holder_of}
use Rattle.h5w_array_laws.specs.ArrayStores.{IsArray, block_at_part, place_at_part, bytes_at_part, blocks_in_place, header_place}
use Rattle.h5w_array_laws.proofs.FoundLemmas.{asked_found, count_blocks, data_place, first_place, second_place}
use Rattle.h5w_array_laws.proofs.GeometryLemmas.{first_number}
use Rattle.h5w_array_laws.proofs.KeptLemmas.{IsKept, is_some_of, kept_as, kept_bytes, kept_in_place, of_some, unchanged}
use Rattle.h5w_array_laws.proofs.StandLemmas.{says_array}
use Rattle.h5w_array_laws.proofs.VisitedLemmas.{IndexNames, index_names}
use Rattle.h5w_ea_index.specs.Opened.{IsOpened, StandsAt, past, refusal, refused_on}
use Rattle.h5w_ea_index.specs.OpenedLaws.{OpenedFinds, OpenedStands}
use Rattle.h5w_ea_index.proofs.NamedLemmas.{past_up}
use Rattle.h5w_ea_index.proofs.WayLemmas.{second_parent}

-- ---- What was visited was decoded

data_sound : (img : List ℕ) (end bytes n place : ℕ) → HasAnswer (eval img (data_block_visit end bytes n place)) → place ≢ undefined → refusal (eadb_at (range img place (slots_len n)) place n) ≡ None
data_sound img end bytes n place h ne =
    let visit : List ℕ → Visited = λ b. elim (eadb_at b place n) as (λ _. Visited) [ Ok d ↦ ret (chunk_ranges end bytes d.slots) | Err f ↦ ret (Err (found 13 place)) ] in
    let t : (place == undefined) ≡ false = ne_eqb place undefined ne in
    let there = block_ok img end place (slots_len n) visit h.0 (ap (eval img) (sym (cond-false (place == undefined) (ret (Ok [])) (block_in end place (slots_len n) visit) t)) ∙ h.1) in
    let decoded = choice_ok img (eadb_at (range img place (slots_len n)) place n) (λ d. ret (chunk_ranges end bytes d.slots)) (λ f. found 13 place) there.0 there.1 in
    ap refusal decoded.1

-- a secondary block, and the data blocks that it names
record SecondSound (img : List ℕ) (end bytes s place : ℕ) : Type 0 where
  sound : refusal (easb_at (range img place (slots_len (super_block_of s).blocks)) place (super_block_of s).blocks) ≡ None
  each : (n : ℕ) → n < (super_block_of s).blocks → HasAnswer (eval img (data_block_visit end bytes (super_block_of s).slots (get_or (numbers_in (range img place (slots_len (super_block_of s).blocks)) (super_block_of s).blocks 18) n undefined)))

second_sound : (img : List ℕ) (end bytes s place : ℕ) → HasAnswer (eval img (secondary_block_visit end bytes s place)) → place ≢ undefined → SecondSound img end bytes s place
second_sound img end bytes s place h ne =
    let n : ℕ = (super_block_of s).blocks in
    let m : ℕ = (super_block_of s).slots in
    let b : List ℕ = range img place (slots_len n) in
    let visit : List ℕ → Visited = λ b. elim (easb_at b place n) as (λ _. Visited) [ Ok s ↦ visit_each (data_block_visit end bytes m) s.slots | Err f ↦ ret (Err (found 12 place)) ] in
    let t : (place == undefined) ≡ false = ne_eqb place undefined ne in
    let there = block_ok img end place (slots_len n) visit h.0 (ap (eval img) (sym (cond-false (place == undefined) (ret (Ok [])) (block_in end place (slots_len n) visit) t)) ∙ h.1) in
    let decoded = choice_ok img (easb_at b place n) (λ s. visit_each (data_block_visit end bytes m) s.slots) (λ f. found 12 place) there.0 there.1 in
    let fields : slots_fields b n ≡ decoded.0 = (checked-passed (block_tests (codes "EASB") (slots_len n) b ++ array_tests b place) (slots_fields b n) decoded.0 decoded.1).1 in
    let slots : numbers_in b n 18 ≡ decoded.0.slots = ap (λ (f : SlotsFields). f.slots) fields in
    record {
      sound = ap refusal decoded.1;
      each = λ k lt.
          let len : length decoded.0.slots ≡ n = sym (ap length slots) ∙ length-numbers_in b n 18 in
          subst (λ l. HasAnswer (eval img (data_block_visit end bytes m (get_or l k undefined)))) (sym slots) (each_ok img (data_block_visit end bytes m) decoded.0.slots there.0 k decoded.2 (omega arith));
    }

-- ---- The blocks of a store

stood : (img : List ℕ) (first : ℕ) (k : Part) (place : ℕ) (b : BlockView) → StandsAt img first k place b → refused_on img k place ≡ None → At img place b.bytes
stood img first k place b (inl is) none = is.there
stood img first k place b (inr passed) none = let e = passed.refused in absurd (cc)

needed : (img : List ℕ) (first : ℕ) (k : Part) (place : ℕ) (b : BlockView) → first < past k → StandsAt img first k place b → At img place b.bytes
needed img first k place b lt (inl is) = is.there
needed img first k place b lt (inr passed) = let e = passed.early in absurd (omega arith)

module _ (img : List ℕ) (end first : ℕ) (d : Described) (fixed behind : List Used) (v : Store) (idx : IsIndex img end d fixed behind) (kind : d.layout.index ≡ Array) (address : d.layout.address ≡ header_place v) (low : first < 131060)
    (a : IsArray v) (clean : v.changed ≡ []) (o : IsOpened img first v) where
  stands_as : (k : Part) → IsPart k → (b : BlockView) → block_at_part v k ≡ Some b → StandsAt img first k (place_at_part v k) b
  stands_as k p b e = of_some (StandsAt img first k (place_at_part v k)) (block_at_part v k) b e (o.each k p)

  kept : (k : Part) → IsPart k → (b : BlockView) → block_at_part v k ≡ Some b → IsKept v k b
  kept k p b e = kept_as v a k p (unchanged v clean (number_of k)) b e

  top : (b : BlockView) × IsKept v index_block b
  top = kept_in_place v a index_block tt refl (unchanged v clean 845)

  index_there : At img (place_at_part v index_block) top.0.bytes
  index_there = needed img first index_block (place_at_part v index_block) top.0 low (stands_as index_block tt top.0 top.1.kept)

  says : eval img (in_place d) ≡ Ok (blocks_in_place v)
  says = (says_array v img d a clean kind address o.headed (subst (λ x. At img (place_at_part v index_block) x) (sym (kept_bytes v index_block top.0 top.1)) index_there)).says

  same_blocks : idx.blocks ≡ in_array (eaib_fields top.0.bytes)
  same_blocks =
      let e = sym idx.read ∙ says in
      let f : idx.blocks ≡ blocks_in_place v = cc in
      f ∙ ap (λ b. in_array (eaib_fields b)) (kept_bytes v index_block top.0 top.1)

  bytes : ℕ
  bytes = chunk_bytes d

  e : List ℕ
  e = top.0.bytes

  visits : HasAnswer (eval img (first_visits end bytes 0 (numbers_in e 6 46))) × HasAnswer (eval img (second_visits end bytes 4 (numbers_in e 25 94)))
  unfolding bytes e top
  visits =
      let h : eval img (both (ret (chunk_ranges end bytes (numbers_in e 4 14))) (both (first_visits end bytes 0 (numbers_in e 6 46)) (second_visits end bytes 4 (numbers_in e 25 94)))) ≡ Ok behind =
      ap (λ x. eval img (behind_visit end bytes x)) (sym same_blocks) ∙ idx.stands in
      let parts = both_ok img (ret (chunk_ranges end bytes (numbers_in e 4 14))) (both (first_visits end bytes 0 (numbers_in e 6 46)) (second_visits end bytes 4 (numbers_in e 25 94))) behind h in
      both_ok img (first_visits end bytes 0 (numbers_in e 6 46)) (second_visits end bytes 4 (numbers_in e 25 94)) parts.1.0 parts.1.1

  names : IndexNames v e
  unfolding e top
  names = index_names v a top.0 top.1

  direct_sound : (s n : ℕ) → s < 4 → n < (super_block_of s).blocks → place_at_part v (data_of s n) ≢ undefined → refused_on img (data_of s n) (place_at_part v (data_of s n)) ≡ None
  direct_sound s n near inside placed =
      let f = first_number s n near inside in
      let k : ℕ = blocks_before s + n in
      let len = length-numbers_in e 6 46 in
      let zero_less : 0 + k ≡ k = omega arith in
      let h = first_ok img end bytes 0 (numbers_in e 6 46) visits.0.0 k visits.0.1 (let few = f.0 in omega arith) in
      let at : get_or (numbers_in e 6 46) k undefined ≡ place_at_part v (data_of s n) = ap (λ l. get_or l k undefined) names.first ∙ first_place (place_at_part v) s n near inside in
      data_sound img end bytes (super_block_of s).slots (place_at_part v (data_of s n))
      (subst (λ q. HasAnswer (eval img (data_block_visit end bytes (super_block_of s).slots q))) at
      (subst (λ r. HasAnswer (eval img (data_block_visit end bytes (super_block_of r).slots (get_or (numbers_in e 6 46) k undefined)))) (ap super_block_of_first zero_less ∙ f.1) h)) placed

  second_visited : (s : ℕ) → 4 ≤ s → s ≤ 12 → place_at_part v (secondary_of s) ≢ undefined → SecondSound img end bytes s (place_at_part v (secondary_of s))
  second_visited s far near placed =
      let len = length-numbers_in e 25 94 in
      let h = second_ok img end bytes 4 (numbers_in e 25 94) visits.1.0 (s - 4) visits.1.1 (omega arith) (omega arith) in
      let back : 4 + (s - 4) ≡ s = omega arith in
      let at : get_or (numbers_in e 25 94) (s - 4) undefined ≡ place_at_part v (secondary_of s) = ap (λ l. get_or l (s - 4) undefined) names.second ∙ second_place (place_at_part v) s (numbers_in e 16 166) far near in
      second_sound img end bytes s (place_at_part v (secondary_of s))
      (subst (λ q. HasAnswer (eval img (secondary_block_visit end bytes s q))) at
      (subst (λ r. HasAnswer (eval img (secondary_block_visit end bytes r (get_or (numbers_in e 25 94) (s - 4) undefined)))) back h)) placed

  far_sound : (s n : ℕ) → 4 ≤ s → s ≤ 12 → n < (super_block_of s).blocks → IsSome (block_at_part v (data_of s n)) → place_at_part v (data_of s n) ≢ undefined
      → refused_on img (data_of s n) (place_at_part v (data_of s n)) ≡ None
  far_sound s n far near inside some placed =
      let up : IsSome (block_at_part v (secondary_of s)) = subst (λ (k : Part). IsSome (block_at_part v k)) (second_parent s n far) (a.held (data_of s n) (near, inside) some) in
      let t = is_some_of (block_at_part v (secondary_of s)) up in
      let is = kept (secondary_of s) (far, near) t.0 t.1 in
      let sound = second_visited s far near is.whole.placed in
      let there : At img (place_at_part v (secondary_of s)) t.0.bytes = stood img first (secondary_of s) (place_at_part v (secondary_of s)) t.0 (stands_as (secondary_of s) (far, near) t.0 t.1) sound.sound in
      let blocks : ℕ = (super_block_of s).blocks in
      let read : range img (place_at_part v (secondary_of s)) (slots_len blocks) ≡ t.0.bytes = ap (range img (place_at_part v (secondary_of s))) (sym is.block.len) ∙ there in
      let named : numbers_in t.0.bytes blocks 18 ≡ map (place_at_part v) (data_blocks_of s) = ap (λ m. numbers_in t.0.bytes m 18) (sym (count_blocks s)) ∙ is.names in
      let at : get_or (numbers_in (range img (place_at_part v (secondary_of s)) (slots_len blocks)) blocks 18) n undefined ≡ place_at_part v (data_of s n) =
      ap (λ x. get_or (numbers_in x blocks 18) n undefined) read ∙ ap (λ l. get_or l n undefined) named ∙ data_place (place_at_part v) s n inside in
      data_sound img end bytes (super_block_of s).slots (place_at_part v (data_of s n))
      (subst (λ q. HasAnswer (eval img (data_block_visit end bytes (super_block_of s).slots q))) at (sound.each n inside)) placed

  part_there : (k : Part) → IsPart k → (b : BlockView) → block_at_part v k ≡ Some b → At img (place_at_part v k) b.bytes
  part_there (data_of s n) p b is =
      let placed = (kept (data_of s n) p b is).whole.placed in
      stood img first (data_of s n) (place_at_part v (data_of s n)) b (stands_as (data_of s n) p b is)
      (elim (cases_lt s 4) [
        | inl near ↦ direct_sound s n near p.1 placed
        | inr far ↦ far_sound s n far p.0 p.1 (subst IsSome (sym is) refl) placed
      ])
  part_there (secondary_of s) p b is =
      let placed = (kept (secondary_of s) p b is).whole.placed in
      stood img first (secondary_of s) (place_at_part v (secondary_of s)) b (stands_as (secondary_of s) p b is) (second_visited s p.0 p.1 placed).sound
  part_there index_block p b is = needed img first index_block (place_at_part v index_block) b low (stands_as index_block p b is)
  part_there header p b is = needed img first header (place_at_part v header) b low (stands_as header p b is)

  all_there : AreThere v img
  all_there n placed never =
      let k = a.known n placed.kept in
      let b = is_some_of (block_at_part v k.0) (subst (λ m. IsSome (block_of v m)) (sym k.2) placed.kept) in
      subst (λ m. At img (place_of v m) (bytes_in v.blocks m)) k.2
      (subst (λ x. At img (place_at_part v k.0) (bytes_of x)) (sym b.1) (part_there k.0 k.1 b.0 b.1))

pub opened_stands : OpenedStands
opened_stands img end first d fixed behind v idx kind address low a clean o = record {
  there = all_there img end first d fixed behind v idx kind address low a clean o;
  headed = o.headed;
}

-- ---- What is found from a chunk number on

one_more : (b m : ℕ) → (b + 1) * m ≡ b * m + m
one_more b m = grind arith

-- the block that has a chunk's slot leads to it
holder_past : (i : ℕ) → 4 ≤ i → i < 131060 → i < past (holder_of (slot_place_of (i - 4)))
holder_past i far low =
    let p : SlotPlace = slot_place_of (i - 4) in
    let is : IsSlotPlace (i - 4) (slot_place_of (i - 4)) = slot_place-stands (i - 4) (omega arith) in
    let m : ℕ = (super_block_of p.sblock).slots in
    let e : (p.block + 1) * m ≡ p.block * m + m = one_more p.block m in
    let number = is.number in
    let inside = is.slot_inside in
    omega arith

pub opened_finds : OpenedFinds
opened_finds img first d v kind address low a clean o =
    let there : (k : Part) → IsPart k → first < past k → (b : BlockView) → IsKept v k b → At img (place_at_part v k) (bytes_at_part v k) =
    λ k part asked b h. subst (λ x. At img (place_at_part v k) x) (sym (kept_bytes v k b h))
    (needed img first k (place_at_part v k) b asked (of_some (StandsAt img first k (place_at_part v k)) (block_at_part v k) b h.kept (o.each k part))) in
    let t = kept_in_place v a index_block tt refl (unchanged v clean 845) in
    record {
      says = (says_array v img d a clean kind address o.headed (there index_block tt low t.0 t.1)).says;
      found = λ key from lt.
          asked_found v img a clean (λ k. first < past k) (λ k part inside asked b h. there k part asked b h) key lt
          (λ far. let h = holder_past key.i far lt in omega arith)
          (λ far second.
          let h = holder_past key.i far lt in
          let is : IsSlotPlace (key.i - 4) (slot_place_of (key.i - 4)) = slot_place-stands (key.i - 4) (omega arith) in
          let up = past_up (slot_place_of (key.i - 4)).sblock (slot_place_of (key.i - 4)).block is.block_inside in
          omega arith);
    }
