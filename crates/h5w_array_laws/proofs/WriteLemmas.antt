-- An array on an image while the writes of a plan come, and others between them.
use Rattle.std.proofs.Common.{◌≡◌, ◌⊎◌, ℕ, ◌+◌, ◌<◌, ◌≤◌, true, false, List, [], ◌∷◌, ◌++◌, length, take, drop, get_or, refl, sym, ap, ◌∙◌, subst, inl, inr, arith, append-nil}
use Rattle.std.specs.Prelude.{Option, map, flat_map}
use Rattle.std.specs.List.{All, AllByRecursion}
use Rattle.std.proofs.lemmas.Bool.{cases_lt, cases_eq, cases_Bool}
use Rattle.std.proofs.Math.Seq.{get_or-append_seam}
use Rattle.std.proofs.lemmas.List.{get_or-take, length-take, length-drop, length-append, take-append-drop}
use Rattle.std.proofs.lemmas.List.Elements.{All-get_or}
use Rattle.h5w_model.specs.Images.{AllMiss, At, Misses, apply, image, pieces}
use Rattle.h5w_model.specs.Images as images
use Rattle.h5w_model.specs.Arrays.{eahd_at, eahd_len}
use Rattle.h5w_model.specs.declared.piece.Write.{Write}
use Rattle.h5w_model.proofs.ImageLemmas.{AllMiss-append, At-apply, At-apply_missed, At-image_missed, pieces-miss, range-image_missed}
use Rattle.h5w_space.specs.Space.{Space, IsLive, Apart, extent}
use Rattle.h5w_space.specs.declared.Extent.{Extent}
use Rattle.h5w_cache.specs.Blocks.{BlockView}
use Rattle.h5w_cache.specs.Stores.{Store, place_of, times}
use Rattle.h5w_cache.specs.Plans.{IsPlan, bytes_in, bytes_of, numbers, writes_of}
use Rattle.h5w_cache.specs.StoreLaws.{IsPlaced, IsRetired, range_of}
use Rattle.h5w_cache.specs.declared.moves.Move.{Move}
use Rattle.h5w_cache.proofs.MoveLemmas.{Apart-sides}
use Rattle.h5w_cache.proofs.LawLemmas.{standing_after, no_move}
use Rattle.h5w_step_laws.specs.Ranges.{block_at}
use Rattle.h5w_array_laws.specs.Parts.{Part, data_of, secondary_of, index_block, header, IsPart, number_of}
use Rattle.h5w_array_laws.specs.ArrayStores.{IsArray, place_at_part, bytes_at_part, header_place}
use Rattle.h5w_array_laws.specs.ArrayImages.{HeaderStands, StandsArray}
use Rattle.h5w_array_laws.specs.ArrayPlans.{fresh}
use Rattle.h5w_array_laws.specs.ArrayWrites.{AreCopies, WritesLeave, PlanCopies, CopiesMiss, InPlaceStands}
use Rattle.h5w_array_laws.proofs.StoreLemmas.{move_at}
use Rattle.h5w_array_laws.proofs.StandLemmas.{header_fits, header_length, header_placed, index_placed, header_stands}
use Rattle.h5w_array_laws.proofs.PlanLemmas.{two_apart, all_clean}
use Rattle.h5w_array_laws.proofs.PlannedLemmas.{clean_block, clean_place}
use Rattle.h5w_array_laws.proofs.VisitedLemmas.{few_blocks}
use Rattle.h5w_array_laws.proofs.FreshLemmas.{fresh_in_place, fresh_copy, fresh_has, plan_off_live, plan_off_retired}
use Rattle.h5w_array_laws.proofs.FixedLemmas.{all_at, rest_at, top_behind, top_stays_move, times_behind, top_numbers, writes_none, writes_two}

-- ---- Writes that miss

pub header_stays : (v : Store) (img : List ℕ) (ws : List Write) → AllMiss ws (header_place v) eahd_len → HeaderStands v img → HeaderStands v (image img ws)
header_stays v img ws misses h = record {
  fields = h.fields;
  read = ap (λ b. eahd_at b (header_place v)) (range-image_missed img ws (header_place v) eahd_len misses (header_fits img (header_place v) h.fields h.read)) ∙ h.read;
  names = h.names;
}

pub writes_leave : WritesLeave
writes_leave = record {
  header = header_stays;
  array = λ v img ws a misses stands. record {
    there = λ n placed clean. At-image_missed img ws (place_of v n) (bytes_in v.blocks n) (misses n placed) (stands.there n placed clean);
    headed = header_stays v img ws (subst (λ m. AllMiss ws (header_place v) m) (header_length v a) (misses 846 (header_placed v a))) stands.headed;
  };
  behind = λ v img ws misses stands n placed low. At-image_missed img ws (place_of v n) (bytes_in v.blocks n) (misses n placed low) (stands n placed low);
}

-- ---- Copies

pub writes_miss : (blocks : List (Option BlockView)) (ms : List Move) (r : Extent) → AllByRecursion (λ m. images.Apart m.new (length (bytes_in blocks m.number)) r.at r.size) ms → AllMiss (writes_of blocks ms) r.at r.size
writes_miss blocks [] r h = tt
writes_miss blocks (m ∷ ms) r h =
    AllMiss-append (pieces m.new (bytes_in blocks m.number)) (writes_of blocks ms) r.at r.size (pieces-miss m.new (bytes_in blocks m.number) r.at r.size h.0) (writes_miss blocks ms r h.1)

-- one of the retired
pub of_retired : (x r : Extent) (s : Space) → IsRetired s r → All (Apart x) s.retired → Apart x r
of_retired x r s h all =
    subst (λ y. Apart x y) (get_or-append_seam h.0 r h.1 r)
    (subst (λ l. Apart x (get_or l (length h.0) r)) h.2 (all (length h.0) r (subst (λ l. length h.0 < length l) (sym h.2) (omega (arith, length-append h.0 (r ∷ h.1))))))

-- a copy and its bytes
pub record IsCopied (blocks : List (Option BlockView)) (m : Move) : Type 0 where
  pub moves : m.in_place ≡ false
  pub len : m.len ≡ length (bytes_in blocks m.number)

pub fresh_joined : (ms ns : List Move) → fresh (ms ++ ns) ≡ fresh ms ++ fresh ns
fresh_joined [] ns = refl
fresh_joined (m ∷ ms) ns = go (cases_Bool m.in_place) (fresh_joined ms ns)
  where
    go : (m.in_place ≡ true) ⊎ (m.in_place ≡ false) → fresh (ms ++ ns) ≡ fresh ms ++ fresh ns → fresh ((m ∷ ms) ++ ns) ≡ fresh (m ∷ ms) ++ fresh ns
    go (inl e) later = fresh_in_place m (ms ++ ns) e ∙ later ∙ ap (λ us. us ++ fresh ns) (sym (fresh_in_place m ms e))
    go (inr e) later = fresh_copy m (ms ++ ns) e ∙ ap (λ us. block_at m.new m.len ∷ us) later ∙ ap (λ us. us ++ fresh ns) (sym (fresh_copy m ms e))

pub fresh_none : (ms : List Move) → AllByRecursion (λ m. m.in_place ≡ true) ms → fresh ms ≡ []
fresh_none [] h = refl
fresh_none (m ∷ ms) h = fresh_in_place m ms h.0 ∙ fresh_none ms h.1

-- each with its bytes
abbrev pub with_bytes : List (Option BlockView) → Move → ℕ × List ℕ
with_bytes blocks m = (m.new, bytes_in blocks m.number)

pub fresh_all : (blocks : List (Option BlockView)) (ms : List Move) → AllByRecursion (IsCopied blocks) ms → fresh ms ≡ map (λ b. block_at b.0 (length b.1)) (map (with_bytes blocks) ms)
fresh_all blocks [] h = refl
fresh_all blocks (m ∷ ms) h =
    let one : block_at m.new m.len ≡ block_at m.new (length (bytes_in blocks m.number)) = ap (block_at m.new) h.0.len in
    fresh_copy m ms h.0.moves ∙ (λ i. one i ∷ fresh_all blocks ms h.1 i)

pub writes_all : (blocks : List (Option BlockView)) (ms : List Move) → writes_of blocks ms ≡ flat_map (λ (b : ℕ × List ℕ). pieces b.0 b.1) (map (with_bytes blocks) ms)
writes_all blocks [] = refl
writes_all blocks (m ∷ ms) = ap (λ l. pieces m.new (bytes_in blocks m.number) ++ l) (writes_all blocks ms)

module _ (v : Store) (s : Space) (ms : List Move) (cs fs : List Write) (w : Store) (t : Space) (p : IsPlan v s ms cs fs w t) (a : IsArray v) where
  pub front_copied : AllByRecursion (IsCopied w.blocks) (take p.writes.split ms)
  front_copied = all_at (IsCopied w.blocks) (take p.writes.split ms) no_move (λ i lt.
      let low : i < p.writes.split = omega (arith, lt, length-take p.writes.split ms) in
      let inside : i < length ms = omega (arith, lt, length-take p.writes.split ms) in
      let same : get_or (take p.writes.split ms) i no_move ≡ get_or ms i no_move = get_or-take p.writes.split ms i no_move low in
      let at = move_at v s ms cs fs w t p i inside in
      record {
        moves = All-get_or (λ (m : Move). m.in_place ≡ false) (take p.writes.split ms) i no_move lt p.writes.splits.before;
        len = subst (λ (m : Move). m.len ≡ length (bytes_in w.blocks m.number)) (sym same) (at.step.len ∙ sym (p.lengths (get_or ms i no_move).number));
      })

  pub back_in_place : AllByRecursion (λ m. m.in_place ≡ true) (drop p.writes.split ms)
  back_in_place = all_at (λ m. m.in_place ≡ true) (drop p.writes.split ms) no_move (λ i lt.
      let j : ℕ = p.writes.split in
      let inside : j + i < length ms = omega (arith, lt, length-drop j ms) in
      subst (λ (m : Move). m.in_place ≡ true) (sym (rest_at v s ms cs fs w t p a i))
      (elim (top_behind v s ms cs fs w t p a i inside) [
        | inl e ↦ top_stays_move v s ms cs fs w t p a index_block tt refl (j + i) inside e
        | inr e ↦ top_stays_move v s ms cs fs w t p a header tt refl (j + i) inside e
      ]))

  pub are_copies : AreCopies ms cs
  are_copies =
      let front : List Move = take p.writes.split ms in
      let back : List Move = drop p.writes.split ms in
      record {
        placed = map (with_bytes w.blocks) front;
        writes = p.writes.before ∙ writes_all w.blocks front;
        ranges =
            ap fresh (sym (take-append-drop p.writes.split ms)) ∙ fresh_joined front back
            ∙ ap (λ us. fresh front ++ us) (fresh_none back back_in_place) ∙ append-nil (fresh front) ∙ fresh_all w.blocks front front_copied;
      }

  pub copies_miss_range : (r : Extent) → 0 < r.size → IsLive s r ⊎ IsRetired s r → AllMiss cs r.at r.size
  copies_miss_range r some known =
      subst (λ ws. AllMiss ws r.at r.size) (sym p.writes.before)
      (writes_miss w.blocks (take p.writes.split ms) r (all_at (λ m. images.Apart m.new (length (bytes_in w.blocks m.number)) r.at r.size) (take p.writes.split ms) no_move (λ i lt.
      let low : i < p.writes.split = omega (arith, lt, length-take p.writes.split ms) in
      let inside : i < length ms = omega (arith, lt, length-take p.writes.split ms) in
      let m : Move = get_or ms i no_move in
      let same : get_or (take p.writes.split ms) i no_move ≡ m = get_or-take p.writes.split ms i no_move low in
      let moves : (get_or (take p.writes.split ms) i no_move).in_place ≡ false = All-get_or (λ (m : Move). m.in_place ≡ false) (take p.writes.split ms) i no_move lt p.writes.splits.before in
      let there = fresh_has ms i inside (subst (λ (m : Move). m.in_place ≡ false) same moves) in
      let at = move_at v s ms cs fs w t p i inside in
      let len : m.len ≡ length (bytes_in w.blocks m.number) = at.step.len ∙ sym (p.lengths m.number) in
      let far : Apart (extent m.new m.len) r = elim known [
        | inl live ↦ plan_off_live v s ms cs fs w t p (block_at m.new m.len) there r live
        | inr gone ↦ of_retired (extent m.new m.len) r s gone (plan_off_retired v s ms cs fs w t p (block_at m.new m.len) there)
      ] in
      subst (λ (m : Move). images.Apart m.new (length (bytes_in w.blocks m.number)) r.at r.size) (sym same)
      (subst (λ n. images.Apart m.new n r.at r.size) len (Apart-sides (extent m.new m.len) r at.step.some some far)))))

pub plan_copies : PlanCopies
plan_copies v s ms cs fs w t a p = record { are = are_copies v s ms cs fs w t p a; miss = copies_miss_range v s ms cs fs w t p a }

pub copies_miss : CopiesMiss
copies_miss v s ms cs fs w t planned n placed =
    copies_miss_range v s ms cs fs w t planned.plan planned.before (range_of v n) (planned.standing.some n placed) (inl (planned.standing.live n placed))

-- ---- The pieces in place

pub which_part : (w : Store) → IsArray w → (n : ℕ) → IsPlaced w n → (n < 845) ⊎ (n ≡ 845) ⊎ (n ≡ 846)
which_part w a n placed = go (a.known n placed.kept) (cases_lt n 845) (cases_eq n 845)
  where
    low : (k : Part) → 845 < number_of k → IsPart k → number_of k ≡ 846
    low (data_of s b) h is = absurd (omega (arith, h, is.0, is.1, few_blocks s is.0))
    low (secondary_of s) h is = absurd (omega (arith, h, is.1))
    low index_block h is = absurd (omega (arith, h))
    low header h is = refl

    go : (k : Part) × IsPart k × (number_of k ≡ n) → (n < 845) ⊎ (845 ≤ n) → (n ≡ 845) ⊎ (n ≡ 845 → ⊥) → (n < 845) ⊎ (n ≡ 845) ⊎ (n ≡ 846)
    go k (inl h) e = inl h
    go k (inr h) (inl e) = inr (inl e)
    go k (inr h) (inr ne) = inr (inr (sym k.2 ∙ low k.0 (omega (arith, k.2, h, ne)) k.1))

pub in_place_stands : InPlaceStands
in_place_stands v s ms cs fs w t img planned stands behind = go (top_numbers v s ms cs fs w t planned.plan planned.before)
  where
    -- all blocks stand
    all : (other : List ℕ) → ((n : ℕ) → IsPlaced w n → n < 845 → At other (place_of w n) (bytes_in w.blocks n)) → At other (place_at_part w index_block) (bytes_at_part w index_block) → At other (header_place w) (bytes_at_part w header)
        → StandsArray w other
    all other low index top = record {
      there = λ n placed none. elim (which_part w planned.after n placed) as (λ _. At other (place_of w n) (bytes_in w.blocks n)) [
        | inl h ↦ low n placed h
        | inr h ↦ elim h as (λ _. At other (place_of w n) (bytes_in w.blocks n)) [
          | inl e ↦ subst (λ k. At other (place_of w k) (bytes_in w.blocks k)) (sym e) index
          | inr e ↦ subst (λ k. At other (place_of w k) (bytes_in w.blocks k)) (sym e) top
        ]
      ];
      headed = header_stands w other planned.after (all_clean v s ms cs fs w t planned.plan) top;
    }

    -- a block in place that did not change stands as it did
    still : (k : Part) → times (number_of k) v.changed ≡ 0 → IsPlaced v (number_of k) → At img (place_at_part w k) (bytes_at_part w k)
    still k none placed =
        subst (λ q. At img q (bytes_at_part w k)) (sym (clean_place v s ms cs fs w t planned.plan planned.before (number_of k) none))
        (subst (λ o. At img (place_at_part v k) (bytes_of o)) (sym (clean_block v s ms cs fs w t planned.plan planned.before (number_of k) none)) (stands.there (number_of k) placed none))

    go : (numbers (drop planned.plan.writes.split ms) ≡ []) ⊎ (numbers (drop planned.plan.writes.split ms) ≡ 845 ∷ 846 ∷ []) → StandsArray w (image img fs)
    go (inl e) =
        let p = planned.plan in
        let index_none : times 845 v.changed ≡ 0 = sym (times_behind v s ms cs fs w t p planned.before index_block tt refl) ∙ ap (times 845) e in
        let header_none : times 846 v.changed ≡ 0 = sym (times_behind v s ms cs fs w t p planned.before header tt refl) ∙ ap (times 846) e in
        subst (λ ws. StandsArray w (image img ws)) (sym (writes_none v s ms cs fs w t p planned.before e))
        (all img behind (still index_block index_none (index_placed v planned.before)) (still header header_none (header_placed v planned.before)))
    go (inr e) =
        let x : Write = record { at = place_at_part w index_block; piece = bytes_at_part w index_block } in
        let y : Write = record { at = header_place w; piece = bytes_at_part w header } in
        let index_there = index_placed w planned.after in
        let header_there = header_placed w planned.after in
        let apart = standing_after v s ms cs fs w t planned.plan planned.standing in
        subst (λ ws. StandsArray w (image img ws)) (sym (writes_two v s ms cs fs w t planned.plan planned.before e))
        (all (apply y (apply x img))
        (λ n placed low.
        At-apply_missed y (apply x img) (place_of w n) (bytes_in w.blocks n) (two_apart w t apart 846 n (λ f. absurd (omega (arith, f, low))) header_there placed)
        (At-apply_missed x img (place_of w n) (bytes_in w.blocks n) (two_apart w t apart 845 n (λ f. absurd (omega (arith, f, low))) index_there placed) (behind n placed low)))
        (At-apply_missed y (apply x img) (place_at_part w index_block) (bytes_at_part w index_block) (two_apart w t apart 846 845 (λ f. absurd (omega (arith, f))) header_there index_there) (At-apply x img))
        (At-apply y (apply x img)))
