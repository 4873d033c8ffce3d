-- What a plan keeps.
use Rattle.std.proofs.Common.{◌≡◌, ℕ, zero, suc, ◌<◌, ◌≤◌, false, List, [], ◌∷◌, ◌++◌, length, get_or, take, drop, sym, ap, subst, ◌∙◌, inl, inr, ◌⊎◌, arith}
use Rattle.std.proofs.lemmas.List.{take-append-drop, length-append}
use Rattle.std.proofs.Math.Seq.{get_or-append_seam}
use Rattle.std.proofs.lemmas.List.Elements.{All-from_get_or, All-get_or, All-head, All-tail}
use Rattle.std.proofs.lemmas.Grind.{flat_map-append}
use Rattle.std.proofs.lemmas.Bool.{cases_eq, cases_lt, cases_Bool}
use Rattle.std.specs.Prelude.{Option, IsSome, is_some}
use Rattle.std.specs.Option.{option_map}
use Rattle.std.specs.List.{All}
use Rattle.h5w_model.specs.Numbers.{undefined}
use Rattle.h5w_model.specs.Images.{AllMiss, At, image, pieces}
use Rattle.h5w_model.specs.Images as images
use Rattle.h5w_model.specs.declared.piece.Write.{Write}
use Rattle.h5w_model.proofs.ImageLemmas.{AllMiss-append, At-pieces, At-image_missed, image-append, pieces-miss}
use Rattle.h5w_space.specs.Space.{Space, IsLive, Apart, extent}
use Rattle.h5w_space.specs.declared.Extent.{Extent}
use Rattle.h5w_space.proofs.Sound.{Apart-sym}
use Rattle.h5w_cache.specs.declared.moves.Move.{Move}
use Rattle.h5w_cache.specs.Blocks.{BlockView, spelled}
use Rattle.h5w_cache.specs.Stores.{Store, block_of, place_of, place_in, times}
use Rattle.h5w_cache.specs.Plans.{IsPlan, Took, block_in, bytes_in, bytes_of, moved, numbers, stays, writes_of}
use Rattle.h5w_cache.specs.StoreLaws.{AreThere, IsForeign, IsLeft, IsPlaced, IsRetired, KeepsStore, Standing, range_of}
use Rattle.h5w_cache.proofs.PlannedLemmas.{kept_inside, listed, moved-one, moved-other, respelled-kept, respelled-one, respelled-other, same_times, stays_true, times-other, times-same, times-more}
use Rattle.h5w_cache.proofs.MoveLemmas.{Apart-sides, IsMoveAt, at_move, found_move, left_retired, moves_live, retired_live, stayed_of, took_of, two_apart}

abbrev pub no_move : Move
no_move = record { number = 0; old = 0; new = 0; len = 0; in_place = false }

-- ---- What is kept under a number, and where

pub others_kept : (v : Store) (s : Space) (ms : List Move) (cs fs : List Write) (w : Store) (t : Space) → (p : IsPlan v s ms cs fs w t) → (n : ℕ) → times n v.changed ≡ 0 → (block_of w n ≡ block_of v n) × (place_of w n ≡ place_of v n)
others_kept v s ms cs fs w t p n h =
    let none : times n (numbers ms) ≡ 0 = same_times v.changed ms n p.order.all ∙ h in (
      ap (λ (q : Store). block_in q.blocks n) p.store ∙ respelled-other (place_in (moved ms v.places)) ms v.blocks n none,
      ap (λ (q : Store). place_in q.places n) p.store ∙ moved-other ms v.places n none,
    )

pub each_spelled : (v : Store) (s : Space) (ms : List Move) (cs fs : List Write) (w : Store) (t : Space) → (p : IsPlan v s ms cs fs w t) → (n : ℕ) → 0 < times n v.changed → block_of w n ≡ option_map (spelled (place_in w.places)) (block_of v n)
each_spelled v s ms cs fs w t p n h =
    let same = same_times v.changed ms n p.order.all in
    let most = p.once n in
    let one : times n (numbers ms) ≡ 1 = omega arith in
    ap (λ (q : Store). block_in q.blocks n) p.store ∙ respelled-one (place_in (moved ms v.places)) ms v.blocks n one
    ∙ ap (λ (q : Store). option_map (spelled (place_in q.places)) (block_of v n)) (sym p.store)

kept_before : (v : Store) (s : Space) (ms : List Move) (cs fs : List Write) (w : Store) (t : Space) → (p : IsPlan v s ms cs fs w t) → (n : ℕ) → IsSome (block_in w.blocks n) → IsSome (block_in v.blocks n)
kept_before v s ms cs fs w t p n h = sym (ap (λ (q : Store). is_some (block_in q.blocks n)) p.store ∙ respelled-kept (place_in (moved ms v.places)) ms v.blocks n) ∙ h

move_at : (v : Store) (s : Space) (ms : List Move) (cs fs : List Write) (w : Store) (t : Space) → (p : IsPlan v s ms cs fs w t) → (i : ℕ) → i < length ms → IsMoveAt v.blocks v.places s (get_or ms i no_move) p.taken.taken
move_at v s ms cs fs w t p i lt = at_move v.blocks v.places s ms p.taken.taken i no_move p.taken.moves lt

-- the place of a moved block
new_at : (v : Store) (s : Space) (ms : List Move) (cs fs : List Write) (w : Store) (t : Space) → (p : IsPlan v s ms cs fs w t) → (i : ℕ) → i < length ms → place_in w.places (get_or ms i no_move).number ≡ (get_or ms i no_move).new
new_at v s ms cs fs w t p i lt =
    let m : Move = get_or ms i no_move in
    let inside : m.number < length v.blocks = kept_inside v.blocks m.number (move_at v s ms cs fs w t p i lt).step.kept in
    let each = p.each_place in
    ap (λ (q : Store). place_in q.places m.number) p.store ∙ moved-one ms v.places i no_move lt (omega arith) (p.once m.number)

-- ---- Where the place of a block comes from

-- it is that which it had
record IsOld (v w : Store) (n : ℕ) : Type 0 where
  pub same : place_in w.places n ≡ place_in v.places n
  pub was : IsPlaced v n

-- it was taken
record IsTaken (v w : Store) (ms : List Move) (n : ℕ) : Type 0 where
  pub index : ℕ
  pub inside : index < length ms
  pub number : (get_or ms index no_move).number ≡ n
  pub moves : stays (get_or ms index no_move).in_place (get_or ms index no_move).old ≡ false
  pub new : place_in w.places n ≡ (get_or ms index no_move).new
  pub len : (get_or ms index no_move).len ≡ length (bytes_in v.blocks n)

fate_at : (v : Store) (s : Space) (ms : List Move) (cs fs : List Write) (w : Store) (t : Space) → (p : IsPlan v s ms cs fs w t) → (n i : ℕ) → i < length ms → (get_or ms i no_move).number ≡ n → IsOld v w n ⊎ IsTaken v w ms n
fate_at v s ms cs fs w t p n i lt is =
    let m : Move = get_or ms i no_move in
    let a = move_at v s ms cs fs w t p i lt in
    let new : place_in w.places n ≡ m.new = subst (λ k. place_in w.places k ≡ m.new) is (new_at v s ms cs fs w t p i lt) in
    let len : m.len ≡ length (bytes_in v.blocks n) = subst (λ k. m.len ≡ length (bytes_in v.blocks k)) is a.step.len in
    let old : m.old ≡ place_in v.places n = subst (λ k. m.old ≡ place_in v.places k) is a.step.old in
    elim (cases_Bool (stays m.in_place m.old)) [
      | inl still ↦ inl (record {
        same = new ∙ stayed_of v.blocks v.places a.before m a.after a.step still ∙ old;
        was = record { kept = subst (λ k. IsSome (block_in v.blocks k)) is a.step.kept; placed = λ u. stays_true m.in_place m.old still (old ∙ u) };
      })
      | inr goes ↦ inr (record { index = i; inside = lt; number = is; moves = goes; new = new; len = len })
    ]

fate : (v : Store) (s : Space) (ms : List Move) (cs fs : List Write) (w : Store) (t : Space) → (p : IsPlan v s ms cs fs w t) → (n : ℕ) → IsPlaced w n → IsOld v w n ⊎ IsTaken v w ms n
fate v s ms cs fs w t p n h =
    elim (cases_lt 0 (times n (numbers ms))) [
      | inl some ↦ let f = found_move ms n no_move some in fate_at v s ms cs fs w t p n f.0 f.1 f.2
      | inr none ↦
          let same : place_in w.places n ≡ place_in v.places n = ap (λ (q : Store). place_in q.places n) p.store ∙ moved-other ms v.places n (omega arith) in
          inl (record { same = same; was = record { kept = kept_before v s ms cs fs w t p n h.kept; placed = λ u. h.placed (same ∙ u) } })
    ]

-- ---- Blocks stay live and apart

-- the range of a block after the plan, by its length before
ranges : (v : Store) (s : Space) (ms : List Move) (cs fs : List Write) (w : Store) (t : Space) → (p : IsPlan v s ms cs fs w t) → (n : ℕ) → extent (place_in w.places n) (length (bytes_in v.blocks n)) ≡ range_of w n
ranges v s ms cs fs w t p n = ap (λ k. extent (place_in w.places n) k) (sym (p.lengths n))

old_range : (v : Store) (s : Space) (ms : List Move) (cs fs : List Write) (w : Store) (t : Space) → (p : IsPlan v s ms cs fs w t) → (n : ℕ) → IsOld v w n → range_of v n ≡ range_of w n
old_range v s ms cs fs w t p n o = ap (λ k. extent k (length (bytes_in v.blocks n))) (sym o.same) ∙ ranges v s ms cs fs w t p n

taken_range : (v : Store) (s : Space) (ms : List Move) (cs fs : List Write) (w : Store) (t : Space) → (p : IsPlan v s ms cs fs w t) → (n : ℕ) → (o : IsTaken v w ms n) → extent (get_or ms o.index no_move).new (get_or ms o.index no_move).len ≡ range_of w n
taken_range v s ms cs fs w t p n o = ap (λ k. extent k (get_or ms o.index no_move).len) (sym o.new) ∙ ap (λ k. extent (place_in w.places n) k) o.len ∙ ranges v s ms cs fs w t p n

-- a taken place is apart from what was live
taken_off : (v : Store) (s : Space) (ms : List Move) (cs fs : List Write) (w : Store) (t : Space) → (p : IsPlan v s ms cs fs w t) → (n : ℕ) → IsTaken v w ms n → (x : Extent) → IsLive s x → Apart (range_of w n) x
taken_off v s ms cs fs w t p n o x l =
    let a = move_at v s ms cs fs w t p o.index o.inside in
    subst (λ r. Apart r x) (taken_range v s ms cs fs w t p n o) ((took_of v.blocks v.places a.before (get_or ms o.index no_move) a.after a.step o.moves).off_live x (a.came x l))

live_after : (v : Store) (s : Space) (ms : List Move) (cs fs : List Write) (w : Store) (t : Space) → (p : IsPlan v s ms cs fs w t) → Standing v s → (n : ℕ) → IsPlaced w n → IsLive p.taken.taken (range_of w n)
live_after v s ms cs fs w t p st n h =
    elim (fate v s ms cs fs w t p n h) [
      | inl o ↦ subst (IsLive p.taken.taken) (old_range v s ms cs fs w t p n o) (moves_live v.blocks v.places s ms p.taken.taken (range_of v n) p.taken.moves (st.live n o.was))
      | inr o ↦
          let a = move_at v s ms cs fs w t p o.index o.inside in
          let m : Move = get_or ms o.index no_move in
          subst (IsLive p.taken.taken) (taken_range v s ms cs fs w t p n o) (a.goes (extent m.new m.len) (took_of v.blocks v.places a.before m a.after a.step o.moves).live)
    ]

two_taken : (v : Store) (s : Space) (ms : List Move) (cs fs : List Write) (w : Store) (t : Space) → (p : IsPlan v s ms cs fs w t) → (n k : ℕ) → (n ≡ k → ⊥) → IsTaken v w ms n → IsTaken v w ms k → Apart (range_of w n) (range_of w k)
two_taken v s ms cs fs w t p n k ne o q =
    let by : (i j : ℕ) → i < j → j < length ms → stays (get_or ms i no_move).in_place (get_or ms i no_move).old ≡ false → stays (get_or ms j no_move).in_place (get_or ms j no_move).old ≡ false
    → Apart (extent (get_or ms j no_move).new (get_or ms j no_move).len) (extent (get_or ms i no_move).new (get_or ms i no_move).len) =
    λ i j lt inside e f. two_apart v.blocks v.places s ms p.taken.taken i j no_move p.taken.moves lt inside e f in
    subst (λ r. Apart r (range_of w k)) (taken_range v s ms cs fs w t p n o) (subst (λ r. Apart (extent (get_or ms o.index no_move).new (get_or ms o.index no_move).len) r) (taken_range v s ms cs fs w t p k q)
    (elim (cases_lt o.index q.index) [
      | inl lt ↦ Apart-sym _ _ (by o.index q.index lt q.inside o.moves q.moves)
      | inr ge ↦
          elim (cases_eq o.index q.index) [
            | inl e ↦ absurd (ne (sym o.number ∙ ap (λ i. (get_or ms i no_move).number) e ∙ q.number))
            | inr ni ↦ by q.index o.index (omega arith) o.inside q.moves o.moves
          ]
    ]))

apart_after : (v : Store) (s : Space) (ms : List Move) (cs fs : List Write) (w : Store) (t : Space) → (p : IsPlan v s ms cs fs w t) → Standing v s → (n k : ℕ) → (n ≡ k → ⊥) → IsPlaced w n → IsPlaced w k → Apart (range_of w n) (range_of w k)
apart_after v s ms cs fs w t p st n k ne hn hk =
    elim (fate v s ms cs fs w t p n hn) [
      | inl o ↦
          elim (fate v s ms cs fs w t p k hk) [
            | inl q ↦ subst (λ r. Apart r (range_of w k)) (old_range v s ms cs fs w t p n o) (subst (Apart (range_of v n)) (old_range v s ms cs fs w t p k q) (st.apart n k ne o.was q.was))
            | inr q ↦ subst (λ r. Apart r (range_of w k)) (old_range v s ms cs fs w t p n o) (Apart-sym _ _ (taken_off v s ms cs fs w t p k q (range_of v n) (st.live n o.was)))
          ]
      | inr o ↦
          elim (fate v s ms cs fs w t p k hk) [
            | inl q ↦ subst (Apart (range_of w n)) (old_range v s ms cs fs w t p k q) (taken_off v s ms cs fs w t p n o (range_of v k) (st.live k q.was))
            | inr q ↦ two_taken v s ms cs fs w t p n k ne o q
          ]
    ]

-- the place that a block left was its range
left_range : (v : Store) (s : Space) (ms : List Move) (cs fs : List Write) (w : Store) (t : Space) → (p : IsPlan v s ms cs fs w t) → (i : ℕ) → i < length ms → extent (get_or ms i no_move).old (get_or ms i no_move).len ≡ range_of v (get_or ms i no_move).number
left_range v s ms cs fs w t p i lt =
    let a = move_at v s ms cs fs w t p i lt in
    let m : Move = get_or ms i no_move in
    ap (λ k. extent k m.len) a.step.old ∙ ap (λ k. extent (place_in v.places m.number) k) a.step.len

left_was : (v : Store) (s : Space) (ms : List Move) (cs fs : List Write) (w : Store) (t : Space) → (p : IsPlan v s ms cs fs w t) → (i : ℕ) → i < length ms → IsLeft (get_or ms i no_move) → IsPlaced v (get_or ms i no_move).number
left_was v s ms cs fs w t p i lt left = let a = move_at v s ms cs fs w t p i lt in record { kept = a.step.kept; placed = λ u. left.0 (a.step.old ∙ u) }

-- no block stands at a place that was left
left_apart : (v : Store) (s : Space) (ms : List Move) (cs fs : List Write) (w : Store) (t : Space) → (p : IsPlan v s ms cs fs w t) → Standing v s → (n : ℕ) → IsPlaced w n → (i : ℕ) → i < length ms → IsLeft (get_or ms i no_move) → Apart (range_of w n) (range_of v (get_or ms i no_move).number)
left_apart v s ms cs fs w t p st n h i lt left =
    let m : Move = get_or ms i no_move in
    let was : IsPlaced v m.number = left_was v s ms cs fs w t p i lt left in
    elim (fate v s ms cs fs w t p n h) [
      | inl o ↦
          elim (cases_eq n m.number) [
            | inl e ↦ absurd (left.1 ((move_at v s ms cs fs w t p i lt).step.old ∙ ap (place_in v.places) (sym e) ∙ sym o.same ∙ ap (place_in w.places) e ∙ new_at v s ms cs fs w t p i lt))
            | inr ne ↦ subst (λ r. Apart r (range_of v m.number)) (old_range v s ms cs fs w t p n o) (st.apart n m.number ne o.was was)
          ]
      | inr o ↦ taken_off v s ms cs fs w t p n o (range_of v m.number) (st.live m.number was)
    ]

roomy_live : (s t : Space) (k : ℕ) (x : Extent) → t ≡ record s { spare = k } → IsLive s x → IsLive t x
roomy_live s t k x e l = subst (λ (q : Space). IsLive q x) (sym e) (record { within = l.within; off_free = l.off_free; off_retired = l.off_retired })

some_after : (v : Store) (s : Space) (ms : List Move) (cs fs : List Write) (w : Store) (t : Space) → (p : IsPlan v s ms cs fs w t) → Standing v s → (n : ℕ) → IsPlaced w n → 0 < length (bytes_in w.blocks n)
some_after v s ms cs fs w t p st n h =
    let len : length (bytes_in w.blocks n) ≡ length (bytes_in v.blocks n) = p.lengths n in
    elim (fate v s ms cs fs w t p n h) [
      | inl o ↦ let some = st.some n o.was in omega arith
      | inr o ↦ let a = move_at v s ms cs fs w t p o.index o.inside in let some = a.step.some in let is : (get_or ms o.index no_move).len ≡ length (bytes_in v.blocks n) = o.len in omega arith
    ]

-- a block that moves has a place afterwards
new_placed : (v : Store) (s : Space) (ms : List Move) (cs fs : List Write) (w : Store) (t : Space) → (p : IsPlan v s ms cs fs w t) → (i : ℕ) → i < length ms → (get_or ms i no_move).new ≡ undefined → ⊥
new_placed v s ms cs fs w t p i lt u =
    let m : Move = get_or ms i no_move in
    let a = move_at v s ms cs fs w t p i lt in
    elim (cases_Bool (stays m.in_place m.old)) [
      | inl still ↦ stays_true m.in_place m.old still (sym (stayed_of v.blocks v.places a.before m a.after a.step still) ∙ u)
      | inr goes ↦ let ends = a.step.ends goes in let some = a.step.some in let is : m.new ≡ undefined = u in absurd (omega arith)
    ]

-- a number is listed once
numbers_differ : (ms : List Move) (i j : ℕ) (d : Move) → i < length ms → j < i → times (get_or ms i d).number (numbers ms) ≤ 1 → (get_or ms i d).number ≡ (get_or ms j d).number → ⊥
numbers_differ [] i j d lt below once e = omega arith
numbers_differ (m ∷ ms) zero j d lt below once e = omega arith
numbers_differ (m ∷ ms) (suc i) zero d lt below once e =
    let there = listed ms i d (omega arith) in
    let t = times-same (get_or ms i d).number m.number (numbers ms) (sym e) in
    omega arith
numbers_differ (m ∷ ms) (suc i) (suc j) d lt below once e =
    let more : times (get_or ms i d).number (numbers ms) ≤ times (get_or ms i d).number (m.number ∷ numbers ms) = times-more (get_or ms i d).number m.number (numbers ms) in
    numbers_differ ms i j d (omega arith) (omega arith) (omega arith) e

pub standing_after : (v : Store) (s : Space) (ms : List Move) (cs fs : List Write) (w : Store) (t : Space) → (p : IsPlan v s ms cs fs w t) → Standing v s → Standing w t
standing_after v s ms cs fs w t p st = record {
  live = λ n h. retired_live p.roomy ms t (range_of w n) p.retired (roomy_live p.taken.taken p.roomy _ (range_of w n) p.taken.roomy (live_after v s ms cs fs w t p st n h))
      (All-from_get_or (λ (m : Move). IsLeft m → Apart (range_of w n) (extent m.old m.len)) ms no_move (λ i lt left. subst (Apart (range_of w n)) (sym (left_range v s ms cs fs w t p i lt)) (left_apart v s ms cs fs w t p st n h i lt left)));
  some = λ n h. some_after v s ms cs fs w t p st n h;
  apart = apart_after v s ms cs fs w t p st;
}

-- ---- What is left is retired

pub all_retired : (v : Store) (s : Space) (ms : List Move) (cs fs : List Write) (w : Store) (t : Space) → (p : IsPlan v s ms cs fs w t) → Standing v s → All (λ (m : Move). IsLeft m → IsRetired t (extent m.old m.len)) ms
all_retired v s ms cs fs w t p st =
    All-from_get_or (λ (m : Move). IsLeft m → IsRetired t (extent m.old m.len)) ms no_move
    (λ i lt left.
    let here : extent (get_or ms i no_move).old (get_or ms i no_move).len ≡ range_of v (get_or ms i no_move).number = left_range v s ms cs fs w t p i lt in
    let live : IsLive s (extent (get_or ms i no_move).old (get_or ms i no_move).len) = subst (IsLive s) (sym here) (st.live (get_or ms i no_move).number (left_was v s ms cs fs w t p i lt left)) in
    left_retired p.roomy ms t i no_move p.retired lt left
    (roomy_live p.taken.taken p.roomy _ (extent (get_or ms i no_move).old (get_or ms i no_move).len) p.taken.roomy (moves_live v.blocks v.places s ms p.taken.taken (extent (get_or ms i no_move).old (get_or ms i no_move).len) p.taken.moves live))
    (λ j below other.
    let lower : j < length ms = omega arith in
    subst (λ r. Apart r (extent (get_or ms j no_move).old (get_or ms j no_move).len)) (sym here)
    (subst (Apart (range_of v (get_or ms i no_move).number)) (sym (left_range v s ms cs fs w t p j lower))
    (st.apart (get_or ms i no_move).number (get_or ms j no_move).number (numbers_differ ms i j no_move lt below (p.once (get_or ms i no_move).number)) (left_was v s ms cs fs w t p i lt left) (left_was v s ms cs fs w t p j lower other)))))

-- ---- The writes

all_writes : (v : Store) (s : Space) (ms : List Move) (cs fs : List Write) (w : Store) (t : Space) → (p : IsPlan v s ms cs fs w t) → cs ++ fs ≡ writes_of w.blocks ms
all_writes v s ms cs fs w t p =
    let k : ℕ = p.writes.split in
    ap (λ l. l ++ fs) p.writes.before ∙ ap (λ l. writes_of w.blocks (take k ms) ++ l) p.writes.from
    ∙ sym (flat_map-append (λ (m : Move). pieces m.new (bytes_in w.blocks m.number)) (take k ms) (drop k ms))
    ∙ ap (writes_of w.blocks) (take-append-drop k ms)

-- writes that miss a range one by one
writes_miss : (blocks : List (Option BlockView)) (ms : List Move) (r : Extent) → All (λ (m : Move). images.Apart m.new (length (bytes_in blocks m.number)) r.at r.size) ms → AllMiss (writes_of blocks ms) r.at r.size
writes_miss blocks [] r h = tt
writes_miss blocks (m ∷ ms) r h =
    AllMiss-append (pieces m.new (bytes_in blocks m.number)) (writes_of blocks ms) r.at r.size
    (pieces-miss m.new (bytes_in blocks m.number) r.at r.size (All-head (λ (x : Move). images.Apart x.new (length (bytes_in blocks x.number)) r.at r.size) m ms h))
    (writes_miss blocks ms r (All-tail (λ (x : Move). images.Apart x.new (length (bytes_in blocks x.number)) r.at r.size) m ms h))

-- a taken place is apart from what was live or retired
took_known : (s a b : Space) (x r : Extent) → a.retired ≡ s.retired → ((y : Extent) → IsLive s y → IsLive a y) → Took a b x → IsLive s r ⊎ IsRetired s r → Apart x r
took_known s a b x r same came took (inl l) = took.off_live r (came r l)
took_known s a b x r same came took (inr h) =
    let e : a.retired ≡ h.0 ++ r ∷ h.1 = same ∙ h.2 in
    subst (λ y. Apart x y) (get_or-append_seam h.0 r h.1 r)
    (subst (λ l. Apart x (get_or l (length h.0) r)) e (took.off_retired (length h.0) r (subst (λ l. length h.0 < length l) (sym e) (omega (arith, length-append h.0 (r ∷ h.1))))))

pub writes_off : (v : Store) (s : Space) (ms : List Move) (cs fs : List Write) (w : Store) (t : Space) → (p : IsPlan v s ms cs fs w t) → (r : Extent) → IsForeign s ms r → AllMiss (cs ++ fs) r.at r.size
writes_off v s ms cs fs w t p r g =
    subst (λ l. AllMiss l r.at r.size) (sym (all_writes v s ms cs fs w t p))
    (writes_miss w.blocks ms r (All-from_get_or (λ (m : Move). images.Apart m.new (length (bytes_in w.blocks m.number)) r.at r.size) ms no_move (λ i lt.
    let m : Move = get_or ms i no_move in
    let a = move_at v s ms cs fs w t p i lt in
    let len : m.len ≡ length (bytes_in w.blocks m.number) = a.step.len ∙ sym (p.lengths m.number) in
    let apart : Apart (extent m.new m.len) r = elim (cases_Bool (stays m.in_place m.old)) [
      | inl still ↦ All-get_or (λ (x : Move). x.new ≡ x.old → Apart (extent x.new x.len) r) ms i no_move lt g.apart (stayed_of v.blocks v.places a.before m a.after a.step still)
      | inr goes ↦ took_known s a.before a.after (extent m.new m.len) r a.same a.came (took_of v.blocks v.places a.before m a.after a.step goes) g.known
    ] in
    subst (λ n. images.Apart m.new n r.at r.size) len (Apart-sides (extent m.new m.len) r a.step.some g.some apart))))

-- ---- The image

-- the writes of blocks one after another: each block stands then, and each that stood and is apart from the others
shown : (P : ℕ → ℕ) (blocks : List (Option BlockView)) (n : ℕ) (ms : List Move) (img : List ℕ) → All (λ (m : Move). m.new ≡ P m.number) ms
    → All (λ (m : Move). (m.number ≡ n → ⊥) → images.Apart (P m.number) (length (bytes_in blocks m.number)) (P n) (length (bytes_in blocks n))) ms
    → At img (P n) (bytes_in blocks n) ⊎ (0 < times n (numbers ms)) → At (image img (writes_of blocks ms)) (P n) (bytes_in blocks n)
shown P blocks n [] img places apart (inl h) = h
shown P blocks n [] img places apart (inr h) = absurd (omega arith)
shown P blocks n (m ∷ ms) img places apart h =
    let first : List Write = pieces m.new (bytes_in blocks m.number) in
    let new : m.new ≡ P m.number = All-head (λ (x : Move). x.new ≡ P x.number) m ms places in
    let rest : At (image img first) (P n) (bytes_in blocks n) ⊎ (0 < times n (numbers ms)) → At (image (image img first) (writes_of blocks ms)) (P n) (bytes_in blocks n) =
    shown P blocks n ms (image img first) (All-tail (λ (x : Move). x.new ≡ P x.number) m ms places)
    (All-tail (λ (x : Move). (x.number ≡ n → ⊥) → images.Apart (P x.number) (length (bytes_in blocks x.number)) (P n) (length (bytes_in blocks n))) m ms apart) in
    subst (λ (i : List ℕ). At i (P n) (bytes_in blocks n)) (sym (image-append img first (writes_of blocks ms)))
    (elim (cases_eq m.number n) [
      | inl e ↦ rest (inl (subst (λ k. At (image img first) (P k) (bytes_in blocks k)) e (subst (λ k. At (image img first) k (bytes_in blocks m.number)) new (At-pieces img m.new (bytes_in blocks m.number)))))
      | inr ne ↦
          let t = times-other n m.number (numbers ms) ne in
          let far : AllMiss first (P n) (length (bytes_in blocks n)) =
          pieces-miss m.new (bytes_in blocks m.number) (P n) (length (bytes_in blocks n))
          (subst (λ k. images.Apart k (length (bytes_in blocks m.number)) (P n) (length (bytes_in blocks n))) (sym new)
          (All-head (λ (x : Move). (x.number ≡ n → ⊥) → images.Apart (P x.number) (length (bytes_in blocks x.number)) (P n) (length (bytes_in blocks n))) m ms apart ne)) in
          rest (elim h as (λ _. At (image img first) (P n) (bytes_in blocks n) ⊎ (0 < times n (numbers ms))) [
            | inl there ↦ inl (At-image_missed img first (P n) (bytes_in blocks n) far there)
            | inr some ↦ inr (omega arith)
          ])
    ])

-- a moved block has a place
moved_placed : (v : Store) (s : Space) (ms : List Move) (cs fs : List Write) (w : Store) (t : Space) → (p : IsPlan v s ms cs fs w t) → (i : ℕ) → i < length ms → IsPlaced w (get_or ms i no_move).number
moved_placed v s ms cs fs w t p i lt =
    let m : Move = get_or ms i no_move in
    let a = move_at v s ms cs fs w t p i lt in
    record {
      kept = ap (λ (q : Store). is_some (block_in q.blocks m.number)) p.store ∙ respelled-kept (place_in (moved ms v.places)) ms v.blocks m.number ∙ a.step.kept;
      placed = λ u. new_placed v s ms cs fs w t p i lt (sym (new_at v s ms cs fs w t p i lt) ∙ u);
    }

clean_there : (v : Store) (s : Space) (ms : List Move) (cs fs : List Write) (w : Store) (t : Space) → (p : IsPlan v s ms cs fs w t) → (img : List ℕ) → AreThere v img → (n : ℕ) → IsPlaced w n → At img (place_in w.places n) (bytes_in w.blocks n) ⊎ (0 < times n (numbers ms))
clean_there v s ms cs fs w t p img there n h =
    elim (cases_lt 0 (times n (numbers ms))) [
      | inl some ↦ inr some
      | inr none ↦
          let same = same_times v.changed ms n p.order.all in
          let clean : times n v.changed ≡ 0 = omega arith in
          let kept = others_kept v s ms cs fs w t p n clean in
          let was : IsPlaced v n = record { kept = kept_before v s ms cs fs w t p n h.kept; placed = λ u. h.placed (kept.1 ∙ u) } in
          inl (subst (λ k. At img k (bytes_in w.blocks n)) (sym kept.1) (subst (λ b. At img (place_in v.places n) (bytes_of b)) (sym kept.0) (there n was clean)))
    ]

pub there_after : (v : Store) (s : Space) (ms : List Move) (cs fs : List Write) (w : Store) (t : Space) → (p : IsPlan v s ms cs fs w t) → Standing v s → (img : List ℕ) → AreThere v img → AreThere w (image img (cs ++ fs))
there_after v s ms cs fs w t p st img there n h clean =
    let after = standing_after v s ms cs fs w t p st in
    subst (λ l. At (image img l) (place_in w.places n) (bytes_in w.blocks n)) (sym (all_writes v s ms cs fs w t p))
    (shown (place_in w.places) w.blocks n ms img
    (All-from_get_or (λ (m : Move). m.new ≡ place_in w.places m.number) ms no_move (λ i lt. sym (new_at v s ms cs fs w t p i lt)))
    (All-from_get_or (λ (m : Move). (m.number ≡ n → ⊥) → images.Apart (place_in w.places m.number) (length (bytes_in w.blocks m.number)) (place_in w.places n) (length (bytes_in w.blocks n))) ms no_move
    (λ i lt ne. let placed = moved_placed v s ms cs fs w t p i lt in
    Apart-sides (range_of w (get_or ms i no_move).number) (range_of w n) (after.some (get_or ms i no_move).number placed) (after.some n h) (after.apart (get_or ms i no_move).number n ne placed h)))
    (clean_there v s ms cs fs w t p img there n h))

pub keeps_store : (v : Store) (s : Space) (ms : List Move) (cs fs : List Write) (w : Store) (t : Space) → (p : IsPlan v s ms cs fs w t) → KeepsStore v s ms (cs ++ fs) w t
keeps_store v s ms cs fs w t p = record {
  others = others_kept v s ms cs fs w t p;
  each = each_spelled v s ms cs fs w t p;
  off = writes_off v s ms cs fs w t p;
  standing = standing_after v s ms cs fs w t p;
  retired = all_retired v s ms cs fs w t p;
  there = there_after v s ms cs fs w t p;
}
