-- What of a store stands on an image after the first writes of a plan: the blocks that were clean, and those that were written.
use Rattle.std.proofs.Common.{◌≡◌, ◌⊎◌, ℕ, ◌<◌, List, [], ◌∷◌, length, get_or, take, sym, ap, subst, ◌∙◌, inl, inr, arith}
use Rattle.std.proofs.lemmas.List.{get_or-take, length-take}
use Rattle.std.proofs.lemmas.List.Elements.{All-from_get_or, All-head, All-tail, All-take}
use Rattle.std.proofs.lemmas.Bool.{cases_eq, cases_Bool}
use Rattle.std.specs.Prelude.{Option, IsSome, is_some}
use Rattle.std.specs.List.{All}
use Rattle.h5w_model.specs.Numbers.{undefined}
use Rattle.h5w_model.specs.Images.{AllMiss, At, image, pieces}
use Rattle.h5w_model.specs.Images as images
use Rattle.h5w_model.specs.declared.piece.Write.{Write}
use Rattle.h5w_model.proofs.ImageLemmas.{At-pieces, At-image_missed, image-append, pieces-miss}
use Rattle.h5w_space.specs.Space.{Space}
use Rattle.h5w_cache.specs.declared.moves.Move.{Move}
use Rattle.h5w_cache.specs.Blocks.{BlockView}
use Rattle.h5w_cache.specs.Stores.{Store, place_in, times}
use Rattle.h5w_cache.specs.Plans.{IsPlan, block_in, bytes_in, bytes_of, moved, numbers, stays, writes_of}
use Rattle.h5w_cache.specs.StoreLaws.{AreThere, IsPlaced, Standing, range_of}
use Rattle.h5w_cache.proofs.PlannedLemmas.{kept_inside, listed, moved-one, respelled-kept, same_times, stays_true, times-other}
use Rattle.h5w_cache.proofs.MoveLemmas.{Apart-sides, IsMoveAt, at_move, found_move, stayed_of}
use Rattle.h5w_cache.proofs.LawLemmas.{others_kept, standing_after, no_move}

-- the writes of blocks one after another: each block stands then, and each that stood and is apart from the others
pub shown : (P : ℕ → ℕ) (blocks : List (Option BlockView)) (n : ℕ) (ms : List Move) (img : List ℕ) → All (λ (m : Move). m.new ≡ P m.number) ms
    → All (λ (m : Move). (m.number ≡ n → ⊥) → images.Apart (P m.number) (length (bytes_in blocks m.number)) (P n) (length (bytes_in blocks n))) ms
    → At img (P n) (bytes_in blocks n) ⊎ (0 < times n (numbers ms)) → At (image img (writes_of blocks ms)) (P n) (bytes_in blocks n)
shown P blocks n [] img places apart (inl h) = h
shown P blocks n [] img places apart (inr h) = absurd (omega arith)
shown P blocks n (m ∷ ms) img places apart h =
    let first : List Write = pieces m.new (bytes_in blocks m.number) in
    let new : m.new ≡ P m.number = All-head (λ (x : Move). x.new ≡ P x.number) m ms places in
    let rest : At (image img first) (P n) (bytes_in blocks n) ⊎ (0 < times n (numbers ms)) → At (image (image img first) (writes_of blocks ms)) (P n) (bytes_in blocks n) =
    shown P blocks n ms (image img first) (All-tail (λ (x : Move). x.new ≡ P x.number) m ms places)
    (All-tail (λ (x : Move). (x.number ≡ n → ⊥) → images.Apart (P x.number) (length (bytes_in blocks x.number)) (P n) (length (bytes_in blocks n))) m ms apart) in
    subst (λ (i : List ℕ). At i (P n) (bytes_in blocks n)) (sym (image-append img first (writes_of blocks ms)))
    (elim (cases_eq m.number n) [
      | inl e ↦ rest (inl (subst (λ k. At (image img first) (P k) (bytes_in blocks k)) e (subst (λ k. At (image img first) k (bytes_in blocks m.number)) new (At-pieces img m.new (bytes_in blocks m.number)))))
      | inr ne ↦
          let t = times-other n m.number (numbers ms) ne in
          let far : AllMiss first (P n) (length (bytes_in blocks n)) =
          pieces-miss m.new (bytes_in blocks m.number) (P n) (length (bytes_in blocks n))
          (subst (λ k. images.Apart k (length (bytes_in blocks m.number)) (P n) (length (bytes_in blocks n))) (sym new)
          (All-head (λ (x : Move). (x.number ≡ n → ⊥) → images.Apart (P x.number) (length (bytes_in blocks x.number)) (P n) (length (bytes_in blocks n))) m ms apart ne)) in
          rest (elim h as (λ _. At (image img first) (P n) (bytes_in blocks n) ⊎ (0 < times n (numbers ms))) [
            | inl there ↦ inl (At-image_missed img first (P n) (bytes_in blocks n) far there)
            | inr some ↦ inr (omega arith)
          ])
    ])

module _ (v : Store) (s : Space) (ms : List Move) (cs fs : List Write) (w : Store) (t : Space) (p : IsPlan v s ms cs fs w t) where
  pub move_at : (i : ℕ) → i < length ms → IsMoveAt v.blocks v.places s (get_or ms i no_move) p.taken.taken
  move_at i lt = at_move v.blocks v.places s ms p.taken.taken i no_move p.taken.moves lt

  -- the place of a moved block
  pub new_at : (i : ℕ) → i < length ms → place_in w.places (get_or ms i no_move).number ≡ (get_or ms i no_move).new
  new_at i lt =
      let m : Move = get_or ms i no_move in
      let inside : m.number < length v.blocks = kept_inside v.blocks m.number (move_at i lt).step.kept in
      let each = p.each_place in
      ap (λ (q : Store). place_in q.places m.number) p.store ∙ moved-one ms v.places i no_move lt (omega arith) (p.once m.number)

  pub kept_before : (n : ℕ) → IsSome (block_in w.blocks n) → IsSome (block_in v.blocks n)
  kept_before n h = sym (ap (λ (q : Store). is_some (block_in q.blocks n)) p.store ∙ respelled-kept (place_in (moved ms v.places)) ms v.blocks n) ∙ h

  pub kept_after : (n : ℕ) → IsSome (block_in v.blocks n) → IsSome (block_in w.blocks n)
  kept_after n h = ap (λ (q : Store). is_some (block_in q.blocks n)) p.store ∙ respelled-kept (place_in (moved ms v.places)) ms v.blocks n ∙ h

  -- a moved block has a place
  pub new_placed : (i : ℕ) → i < length ms → (get_or ms i no_move).new ≡ undefined → ⊥
  new_placed i lt u =
      let m : Move = get_or ms i no_move in
      let a = move_at i lt in
      elim (cases_Bool (stays m.in_place m.old)) [
        | inl still ↦ stays_true m.in_place m.old still (sym (stayed_of v.blocks v.places a.before m a.after a.step still) ∙ u)
        | inr goes ↦ let ends = a.step.ends goes in let some = a.step.some in let is : m.new ≡ undefined = u in absurd (omega arith)
      ]

  pub moved_placed : (i : ℕ) → i < length ms → IsPlaced w (get_or ms i no_move).number
  moved_placed i lt =
      let m : Move = get_or ms i no_move in
      let a = move_at i lt in
      record { kept = kept_after m.number a.step.kept; placed = λ u. new_placed i lt (sym (new_at i lt) ∙ u) }

  -- each changed block is moved
  pub changed_moved : (n : ℕ) → 0 < times n v.changed → (i : ℕ) × (i < length ms) × ((get_or ms i no_move).number ≡ n)
  changed_moved n h = found_move ms n no_move (let e = same_times v.changed ms n p.order.all in omega arith)

  -- each changed block has a place afterwards
  pub changed_placed : (n : ℕ) → 0 < times n v.changed → IsPlaced w n
  changed_placed n h = let f = changed_moved n h in subst (λ k. IsPlaced w k) f.2 (moved_placed f.0 f.1)

  -- one that was clean was placed before
  pub clean_before : (n : ℕ) → times n v.changed ≡ 0 → IsPlaced w n → IsPlaced v n
  clean_before n clean h =
      let kept = others_kept v s ms cs fs w t p n clean in
      record { kept = kept_before n h.kept; placed = λ u. h.placed (kept.1 ∙ u) }

  -- what stands after the writes of the first j moves
  pub stands_after : Standing v s → (img : List ℕ) → AreThere v img → (j n : ℕ) → IsPlaced w n → (times n v.changed ≡ 0) ⊎ (0 < times n (numbers (take j ms)))
      → At (image img (writes_of w.blocks (take j ms))) (place_in w.places n) (bytes_in w.blocks n)
  stands_after st img there j n h which =
      let after = standing_after v s ms cs fs w t p st in
      shown (place_in w.places) w.blocks n (take j ms) img
      (All-take (λ (m : Move). m.new ≡ place_in w.places m.number) j ms (All-from_get_or (λ (m : Move). m.new ≡ place_in w.places m.number) ms no_move (λ i lt. sym (new_at i lt))))
      (All-take (λ (m : Move). (m.number ≡ n → ⊥) → images.Apart (place_in w.places m.number) (length (bytes_in w.blocks m.number)) (place_in w.places n) (length (bytes_in w.blocks n))) j ms
      (All-from_get_or (λ (m : Move). (m.number ≡ n → ⊥) → images.Apart (place_in w.places m.number) (length (bytes_in w.blocks m.number)) (place_in w.places n) (length (bytes_in w.blocks n))) ms no_move
      (λ i lt ne. let placed = moved_placed i lt in
      Apart-sides (range_of w (get_or ms i no_move).number) (range_of w n) (after.some (get_or ms i no_move).number placed) (after.some n h) (after.apart (get_or ms i no_move).number n ne placed h))))
      (elim which as (λ _. At img (place_in w.places n) (bytes_in w.blocks n) ⊎ (0 < times n (numbers (take j ms)))) [
        | inl clean ↦
            let kept = others_kept v s ms cs fs w t p n clean in
            inl (subst (λ k. At img k (bytes_in w.blocks n)) (sym kept.1) (subst (λ b. At img (place_in v.places n) (bytes_of b)) (sym kept.0) (there n (clean_before n clean h) clean)))
        | inr some ↦ inr some
      ])

-- a number that is listed at a place before j
pub listed_before : (ms : List Move) (i j : ℕ) (d : Move) → i < length ms → i < j → 0 < times (get_or ms i d).number (numbers (take j ms))
listed_before ms i j d lt low =
    let same : get_or (take j ms) i d ≡ get_or ms i d = get_or-take j ms i d low in
    subst (λ (m : Move). 0 < times m.number (numbers (take j ms))) same (listed (take j ms) i d (omega (arith, length-take j ms)))
