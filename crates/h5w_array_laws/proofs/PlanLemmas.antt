-- An array on an image after a plan: once its copies are written, after each piece in place, and once all is written.
use Rattle.std.proofs.Common.{◌≡◌, ◌≢◌, ◌⊎◌, ℕ, zero, suc, ◌<◌, ◌≤◌, Bool, true, List, [], ◌∷◌, ◌++◌, length, take, get_or, Ok, refl, sym, ap, ◌∙◌, subst, inl, inr, arith}
use Rattle.std.specs.Prelude.{◌==◌, ◌&&◌, not, Option, Some, IsSome}
use Rattle.std.specs.Option.{IsSomeAnd}
use Rattle.std.proofs.lemmas.Bool.{cases_lt}
use Rattle.std.proofs.lemmas.List.{get_or-map, length-map}
use Rattle.h5w_model.specs.Numbers.{range, undefined}
use Rattle.h5w_model.specs.Images.{At, Misses, apply, image}
use Rattle.h5w_model.specs.Images as images
use Rattle.h5w_model.specs.Arrays.{eahd_at, eahd_len}
use Rattle.h5w_model.specs.Datasets.{Described}
use Rattle.h5w_model.specs.declared.cell.IndexKind.TheVariants.{Array}
use Rattle.h5w_model.specs.declared.piece.Write.{Write}
use Rattle.h5w_model.proofs.ImageLemmas.{At-apply, At-apply_missed, range-apply_missed}
use Rattle.h5w_space.specs.Space.{Space}
use Rattle.h5w_cache.specs.Blocks.{BlockView}
use Rattle.h5w_cache.specs.Stores.{Store, block_of, place_of, times}
use Rattle.h5w_cache.specs.Plans.{IsPlan, bytes_in, turn_in, turn_of, numbers, stays}
use Rattle.h5w_cache.specs.StoreLaws.{AreThere, IsPlaced, Standing, range_of}
use Rattle.h5w_cache.specs.declared.moves.Move.{Move}
use Rattle.h5w_cache.proofs.MoveLemmas.{Apart-sides, stayed_of}
use Rattle.h5w_cache.proofs.LawLemmas.{others_kept, standing_after, no_move}
use Rattle.h5w_array_laws.specs.Parts.{Part, data_of, secondary_of, index_block, header, IsPart, number_of, stays_in_place}
use Rattle.h5w_array_laws.specs.ArrayStores.{IsArray, IsBlock, block_at_part, place_at_part, bytes_at_part, header_place}
use Rattle.h5w_array_laws.specs.ArrayImages.{HeaderStands, SaysArray, AreInPlace, CopiesStand, InPlaceSays, AllStand}
use Rattle.h5w_array_laws.proofs.StoreLemmas.{move_at, new_at, changed_moved, stands_after, listed_before}
use Rattle.h5w_array_laws.proofs.InPlaceLemmas.{unequal}
use Rattle.h5w_array_laws.proofs.KeptLemmas.{of_some, is_some_of, some_is}
use Rattle.h5w_array_laws.proofs.StandLemmas.{header_fits, header_placed, index_placed, header_length, header_stands, says_array}

-- ---- Turns

pub block_known : (v : Store) → IsArray v → (n : ℕ) (b : BlockView) → block_of v n ≡ Some b → (k : Part) × IsPart k × (number_of k ≡ n) × IsBlock k b
block_known v a n b e =
    let k = a.known n (some_is (block_of v n) b e) in
    (k.0, k.1, k.2, of_some (IsBlock k.0) (block_at_part v k.0) b (ap (block_of v) k.2 ∙ e) (a.each k.0 k.1))

pub turn_is : (v : Store) → IsArray v → (n : ℕ) → IsSome (block_of v n) → turn_in v.blocks n ≡ n
turn_is v a n h =
    let t = is_some_of (block_of v n) h in
    let k = block_known v a n t.0 t.1 in
    ap turn_of t.1 ∙ k.3.turn ∙ k.2

-- what stays in place has a high number
pub stays_high : (k : Part) → stays_in_place k ≡ true → 845 ≤ number_of k
stays_high (data_of s b) h = absurd cc
stays_high (secondary_of s) h = absurd cc
stays_high index_block h = omega arith
stays_high header h = omega arith

pub in_place_high : (v : Store) → IsArray v → (n : ℕ) (b : BlockView) → block_of v n ≡ Some b → b.in_place ≡ true → 845 ≤ n
in_place_high v a n b e h =
    let k = block_known v a n b e in
    subst (λ m. 845 ≤ m) k.2 (stays_high k.0 (sym k.3.in_place ∙ h))

pub someAnd_of : {A : Type 0} (P : A → Type 0) (o : Option A) (x : A) → o ≡ Some x → IsSomeAnd o P → P x
someAnd_of P o x e h = subst (λ q. IsSomeAnd q P) e h

-- ---- What was copied

pub copy_before : (v : Store) (s : Space) (ms : List Move) (cs fs : List Write) (w : Store) (t : Space) (p : IsPlan v s ms cs fs w t) → IsArray v → (n i : ℕ) → n < 845 → i < length ms → (get_or ms i no_move).number ≡ n → i < p.writes.split
copy_before v s ms cs fs w t p a n i low lt is = go (cases_lt i p.writes.split)
  where
    go : (i < p.writes.split) ⊎ (p.writes.split ≤ i) → i < p.writes.split
    go (inl h) = h
    go (inr h) =
        let j : ℕ = p.writes.split in
        let inside : j < length ms = omega (arith, h, lt) in
        let m : Move = get_or ms j no_move in
        let first = move_at v s ms cs fs w t p j inside in
        let last = move_at v s ms cs fs w t p i lt in
        let b = is_some_of (block_of v m.number) first.step.kept in
        let stays : m.in_place ≡ true = p.writes.splits.from inside no_move in
        let same : m.in_place ≡ b.0.in_place = someAnd_of (λ (x : BlockView). m.in_place ≡ x.in_place) (block_of v m.number) b.0 b.1 first.step.in_place in
        let high : 845 ≤ m.number = in_place_high v a m.number b.0 b.1 (sym same ∙ stays) in
        let count : length (numbers ms) ≡ length ms = length-map ms (λ (x : Move). x.number) in
        let first_is : get_or (numbers ms) j 0 ≡ m.number = get_or-map (λ (x : Move). x.number) ms j no_move 0 inside in
        let last_is : get_or (numbers ms) i 0 ≡ (get_or ms i no_move).number = get_or-map (λ (x : Move). x.number) ms i no_move 0 lt in
        let rising : turn_in v.blocks (get_or (numbers ms) j 0) ≤ turn_in v.blocks (get_or (numbers ms) i 0) = p.order.turns j i 0 h (omega (arith, count, lt)) in
        let first_turn : turn_in v.blocks (get_or (numbers ms) j 0) ≡ m.number = ap (turn_in v.blocks) first_is ∙ turn_is v a m.number first.step.kept in
        let last_turn : turn_in v.blocks (get_or (numbers ms) i 0) ≡ (get_or ms i no_move).number = ap (turn_in v.blocks) last_is ∙ turn_is v a (get_or ms i no_move).number last.step.kept in
        absurd (omega (arith, high, rising, first_turn, last_turn, is, low))

pub copies_stand : CopiesStand
copies_stand v s ms cs fs w t img planned stands n placed low =
    let p = planned.plan in
    subst (λ ws. At (image img ws) (place_of w n) (bytes_in w.blocks n)) (sym p.writes.before)
    (stands_after v s ms cs fs w t p planned.standing img stands.there p.writes.split n placed (which (cases_lt 0 (times n v.changed))))
  where
    which : (0 < times n v.changed) ⊎ (times n v.changed ≤ 0) → (times n v.changed ≡ 0) ⊎ (0 < times n (numbers (take planned.plan.writes.split ms)))
    which (inl some) =
        let f = changed_moved v s ms cs fs w t planned.plan n some in
        inr (subst (λ k. 0 < times k (numbers (take planned.plan.writes.split ms))) f.2
        (listed_before ms f.0 planned.plan.writes.split no_move f.1 (copy_before v s ms cs fs w t planned.plan planned.before n f.0 low f.1 f.2)))
    which (inr none) = inl (omega arith)

-- ---- The blocks in place

pub stays_and : (b : Bool) (old : ℕ) → b ≡ true → old ≢ undefined → stays b old ≡ true
stays_and b old e n = ap (λ c. c && not (old == undefined)) e ∙ ap not (unequal old undefined n)

-- a block in place that is placed stays where it is
pub place_stays : (v : Store) (s : Space) (ms : List Move) (cs fs : List Write) (w : Store) (t : Space) → IsPlan v s ms cs fs w t → IsArray v → (k : Part) → IsPart k → stays_in_place k ≡ true → place_at_part w k ≡ place_at_part v k
place_stays v s ms cs fs w t p a k is stay = go (cases_lt 0 (times (number_of k) v.changed))
  where
    n : ℕ
    n = number_of k

    go : (0 < times (number_of k) v.changed) ⊎ (times (number_of k) v.changed ≤ 0) → place_at_part w k ≡ place_at_part v k
    go (inr none) = (others_kept v s ms cs fs w t p n (omega arith)).1
    go (inl some) =
        let f = changed_moved v s ms cs fs w t p n some in
        let m : Move = get_or ms f.0 no_move in
        let at = move_at v s ms cs fs w t p f.0 f.1 in
        let b = is_some_of (block_at_part v k) (a.in_place k is stay).0 in
        let known = of_some (IsBlock k) (block_at_part v k) b.0 b.1 (a.each k is) in
        let here : block_of v m.number ≡ Some b.0 = ap (block_of v) f.2 ∙ b.1 in
        let same : m.in_place ≡ b.0.in_place = someAnd_of (λ (x : BlockView). m.in_place ≡ x.in_place) (block_of v m.number) b.0 here at.step.in_place in
        let old : m.old ≡ place_at_part v k = at.step.old ∙ ap (place_of v) f.2 in
        let still : stays m.in_place m.old ≡ true = stays_and m.in_place m.old (same ∙ known.in_place ∙ stay) (λ u. (a.in_place k is stay).1 (sym old ∙ u)) in
        ap (place_of w) (sym f.2) ∙ new_at v s ms cs fs w t p f.0 f.1 ∙ stayed_of v.blocks v.places at.before m at.after at.step still ∙ old

pub all_clean : (v : Store) (s : Space) (ms : List Move) (cs fs : List Write) (w : Store) (t : Space) → IsPlan v s ms cs fs w t → w.changed ≡ []
all_clean v s ms cs fs w t p = ap (λ (q : Store). q.changed) p.store

-- two placed blocks do not meet
pub two_apart : (w : Store) (t : Space) → Standing w t → (n k : ℕ) → (n ≡ k → ⊥) → IsPlaced w n → IsPlaced w k → images.Apart (place_of w n) (length (bytes_in w.blocks n)) (place_of w k) (length (bytes_in w.blocks k))
two_apart w t st n k ne h g = Apart-sides (range_of w n) (range_of w k) (st.some n h) (st.some k g) (st.apart n k ne h g)

-- a header that stood, as it is said of the store after
pub header_after : (v w : Store) (img : List ℕ) → header_place w ≡ header_place v → place_at_part w index_block ≡ place_at_part v index_block → HeaderStands v img → HeaderStands w img
header_after v w img hp ip h = record {
  fields = h.fields;
  read = subst (λ p. eahd_at (range img p eahd_len) p ≡ Ok h.fields) (sym hp) h.read;
  names = h.names ∙ sym ip;
}

module _ (w : Store) (t : Space) (img : List ℕ) (a : IsArray w) (clean : w.changed ≡ []) (st : Standing w t) (headed : HeaderStands w img) where
  -- the index block is written
  pub after_one : HeaderStands w (apply (record { at = place_at_part w index_block; piece = bytes_at_part w index_block }) img)
  after_one =
      let hp : ℕ = header_place w in
      let x : Write = record { at = place_at_part w index_block; piece = bytes_at_part w index_block } in
      let apart : images.Apart (place_at_part w index_block) (length (bytes_at_part w index_block)) (header_place w) (length (bytes_at_part w header)) = two_apart w t st 845 846 (λ e. absurd (omega (arith, e))) (index_placed w a) (header_placed w a) in
      let missed : Misses x hp eahd_len = subst (λ m. Misses x hp m) (header_length w a) apart in
      record {
        fields = headed.fields;
        read = ap (λ b. eahd_at b hp) (range-apply_missed x img hp eahd_len missed (header_fits img hp headed.fields headed.read)) ∙ headed.read;
        names = headed.names;
      }

  pub says_one : (d : Described) → d.layout.index ≡ Array → d.layout.address ≡ header_place w → SaysArray w d (apply (record { at = place_at_part w index_block; piece = bytes_at_part w index_block }) img)
  says_one d kind address =
      let x : Write = record { at = place_at_part w index_block; piece = bytes_at_part w index_block } in
      says_array w (apply x img) d a clean kind address after_one (At-apply x img)

  -- and the header
  pub says_two : (d : Described) → d.layout.index ≡ Array → d.layout.address ≡ header_place w
      → SaysArray w d (apply (record { at = header_place w; piece = bytes_at_part w header }) (apply (record { at = place_at_part w index_block; piece = bytes_at_part w index_block }) img))
  says_two d kind address =
      let x : Write = record { at = place_at_part w index_block; piece = bytes_at_part w index_block } in
      let y : Write = record { at = header_place w; piece = bytes_at_part w header } in
      let apart : images.Apart (header_place w) (length (bytes_at_part w header)) (place_at_part w index_block) (length (bytes_at_part w index_block)) = two_apart w t st 846 845 (λ e. absurd (omega (arith, e))) (header_placed w a) (index_placed w a) in
      says_array w (apply y (apply x img)) d a clean kind address (header_stands w (apply y (apply x img)) a clean (At-apply y (apply x img)))
      (At-apply_missed y (apply x img) (place_at_part w index_block) (bytes_at_part w index_block) apart (At-apply x img))

  -- after each of the two
  pub says_each : (d : Described) (k : ℕ) → d.layout.index ≡ Array → d.layout.address ≡ header_place w → 1 ≤ k → k ≤ 2
      → SaysArray w d (image img (take k (record { at = place_at_part w index_block; piece = bytes_at_part w index_block } ∷ record { at = header_place w; piece = bytes_at_part w header } ∷ [])))
  says_each d zero kind address some few = absurd (omega arith)
  says_each d (suc zero) kind address some few = says_one d kind address
  says_each d (suc (suc zero)) kind address some few = says_two d kind address
  says_each d (suc (suc (suc k))) kind address some few = absurd (omega arith)

pub in_place_says : InPlaceSays
in_place_says v s ms cs fs w t img d k planned headed kind address some few = go planned.fixed
  where
    go : AreInPlace w fs → SaysArray w d (image img (take k fs))
    go (inl e) = absurd (omega (arith, ap length e, some, few))
    go (inr e) =
        let p = planned.plan in
        let hp : header_place w ≡ header_place v = place_stays v s ms cs fs w t p planned.before header tt refl in
        let ip : place_at_part w index_block ≡ place_at_part v index_block = place_stays v s ms cs fs w t p planned.before index_block tt refl in
        let count : length fs ≡ 2 = ap length e in
        subst (λ ws. SaysArray w d (image img (take k ws))) (sym e)
        (says_each w t img planned.after (all_clean v s ms cs fs w t p) (standing_after v s ms cs fs w t p planned.standing) (header_after v w img hp ip headed) d k kind (address ∙ sym hp) some (omega (arith, count, few)))

-- ---- All

pub all_stand : AllStand
all_stand v s ms cs fs w t img planned stands =
    let clean = all_clean v s ms cs fs w t planned.plan in
    let there : AreThere w (image img (cs ++ fs)) = planned.keeps.there planned.standing img stands.there in
    record { there = there; headed = header_stands w (image img (cs ++ fs)) planned.after clean (there 846 (header_placed w planned.after) (ap (times 846) clean)) }
