-- What a write puts into an image, and what it leaves.
use Rattle.std.proofs.Common.{ℕ, zero, suc, ◌+◌, ◌-◌, ◌*◌, ◌/◌, ◌<◌, ◌≤◌, ◌≡◌, min, max, List, [], ◌∷◌, ◌++◌, length, take, drop, get_or, sym, refl, ap, ◌∙◌, subst, replicate, inl, inr, arith, length-append, length-drop}
use Rattle.std.proofs.lemmas.List.{length-take, length-replicate, get_or-take, get_or-drop, get_or-append-add, get_or_append_left, get_or-append_right, get_or-replicate, get_or_past, ext_get_or, append-nil, length-take-le, take-append-drop, take_at, drop_at, take_all}
use Rattle.std.proofs.lemmas.Bool.{cases_lt}
use Rattle.h5w_model.specs.Numbers.{num, range, field}
use Rattle.h5w_model.specs.Images.{apply, image, At, Apart, Misses, AllMiss, AllMissEach, AllSized, ApartEach, Holds, MissesEach, first_pieces, pieces}
use Rattle.h5w_model.specs.declared.piece.Write.{Write}

pub length-range : (img : List ℕ) (place n : ℕ) → length (range img place n) ≡ min n (length img - place)
length-range img place n = simp (length-take, length-drop)

pub get_or-range : (img : List ℕ) (place n i : ℕ) → i < n → get_or (range img place n) i 0 ≡ get_or img (place + i) 0
get_or-range img place n i h = get_or-take n (drop place img) i 0 h ∙ get_or-drop place img i 0

pub length-apply : (w : Write) (img : List ℕ) → length (apply w img) ≡ max (length img) (w.at + length w.piece)
unfolding apply
length-apply w img = simp (length-append, length-take, length-drop, length-replicate) (omega arith)

pub front_length : (a : ℕ) (img : List ℕ) → length (take a img ++ replicate (a - length img) 0) ≡ a
front_length a img = simp (length-append, length-take, length-replicate) (omega arith)

-- zeros past the end are what the default gives
pub get_or-front : (a : ℕ) (img : List ℕ) (k : ℕ) → k < a → get_or (take a img ++ replicate (a - length img) 0) k 0 ≡ get_or img k 0
get_or-front a img k h =
    elim (cases_lt k (length img)) [
      | inl there ↦
          let within : k < length (take a img) = simp length-take (omega arith) in
          get_or_append_left (take a img) (replicate (a - length img) 0) 0 k within ∙ get_or-take a img k 0 h
      | inr past ↦
          let cut : length (take a img) ≡ length img = simp length-take (omega arith) in
          get_or-append_right (take a img) (replicate (a - length img) 0) (length img) k 0 cut past
          ∙ get_or-replicate (a - length img) (k - length img) 0 0 (omega arith)
          ∙ sym (get_or_past img k 0 past)
    ]

pub get_or-apply_before : (w : Write) (img : List ℕ) (k : ℕ) → k < w.at → get_or (apply w img) k 0 ≡ get_or img k 0
unfolding apply
get_or-apply_before w img k h =
    let front = take w.at img ++ replicate (w.at - length img) 0 in
    let l : length front ≡ w.at = front_length w.at img in
    let l2 : length (front ++ w.piece) ≡ w.at + length w.piece = length-append front w.piece ∙ ap (λ n. n + length w.piece) l in
    get_or_append_left (front ++ w.piece) (drop (w.at + length w.piece) img) 0 k (omega arith)
    ∙ get_or_append_left front w.piece 0 k (omega arith)
    ∙ get_or-front w.at img k h

pub get_or-apply_in : (w : Write) (img : List ℕ) (k : ℕ) → k < length w.piece → get_or (apply w img) (w.at + k) 0 ≡ get_or w.piece k 0
unfolding apply
get_or-apply_in w img k h =
    let front = take w.at img ++ replicate (w.at - length img) 0 in
    let l : length front ≡ w.at = front_length w.at img in
    let l2 : length (front ++ w.piece) ≡ w.at + length w.piece = length-append front w.piece ∙ ap (λ n. n + length w.piece) l in
    get_or_append_left (front ++ w.piece) (drop (w.at + length w.piece) img) 0 (w.at + k) (omega arith)
    ∙ get_or-append_right front w.piece w.at (w.at + k) 0 l (omega arith)
    ∙ ap (λ n. get_or w.piece n 0) (omega arith)

pub get_or-apply_after : (w : Write) (img : List ℕ) (k : ℕ) → w.at + length w.piece ≤ k → get_or (apply w img) k 0 ≡ get_or img k 0
unfolding apply
get_or-apply_after w img k h =
    let front = take w.at img ++ replicate (w.at - length img) 0 in
    let l : length front ≡ w.at = front_length w.at img in
    let l2 : length (front ++ w.piece) ≡ w.at + length w.piece = length-append front w.piece ∙ ap (λ n. n + length w.piece) l in
    get_or-append_right (front ++ w.piece) (drop (w.at + length w.piece) img) (w.at + length w.piece) k 0 l2 h
    ∙ get_or-drop (w.at + length w.piece) img (k - (w.at + length w.piece)) 0
    ∙ ap (λ n. get_or img n 0) (omega arith)

-- two images with the same bytes in a range that lies in both
pub range_same : (img other : List ℕ) (place n : ℕ) → place + n ≤ length img → place + n ≤ length other
    → ((k : ℕ) → place ≤ k → k < place + n → get_or img k 0 ≡ get_or other k 0)
    → range img place n ≡ range other place n
range_same img other place n h g same =
    ext_get_or 0 (range img place n) (range other place n)
    (length-range img place n ∙ omega arith ∙ sym (length-range other place n))
    (λ k lt.
    let short : k < n = omega (arith, length-range img place n) in
    get_or-range img place n k short ∙ same (place + k) (omega arith) (omega arith) ∙ sym (get_or-range other place n k short))

-- bytes that stand in an image end within it
pub At-fits : (img : List ℕ) (place : ℕ) (bytes : List ℕ) → At img place bytes → 0 < length bytes → place + length bytes ≤ length img
At-fits img place bytes stands some = omega (arith, length-range img place (length bytes), ap length stands)

-- each byte of a block that stands
pub get_or-At : (img : List ℕ) (place : ℕ) (bytes : List ℕ) (k : ℕ) → At img place bytes → k < length bytes → get_or img (place + k) 0 ≡ get_or bytes k 0
get_or-At img place bytes k stands lt =
    sym (get_or-range img place (length bytes) k lt) ∙ ap (λ (b : List ℕ). get_or b k 0) stands

pub At-from_get_or : (img : List ℕ) (place : ℕ) (bytes : List ℕ) → place + length bytes ≤ length img
    → ((k : ℕ) → k < length bytes → get_or img (place + k) 0 ≡ get_or bytes k 0) → At img place bytes
At-from_get_or img place bytes fits same =
    let l : length (range img place (length bytes)) ≡ length bytes = length-range img place (length bytes) ∙ omega arith in
    ext_get_or 0 (range img place (length bytes)) bytes l
    (λ k lt. let short : k < length bytes = omega arith in get_or-range img place (length bytes) k short ∙ same k short)

-- what was written is there
pub At-apply : (w : Write) (img : List ℕ) → At (apply w img) w.at w.piece
At-apply w img = At-from_get_or (apply w img) w.at w.piece (omega (arith, length-apply w img)) (get_or-apply_in w img)

-- a byte that a write misses stays
pub get_or-apply_missed : (w : Write) (img : List ℕ) (k : ℕ) → Misses w k 1 → get_or (apply w img) k 0 ≡ get_or img k 0
get_or-apply_missed w img k (inl before) = get_or-apply_after w img k before
get_or-apply_missed w img k (inr after) = get_or-apply_before w img k (omega arith)

-- what a write misses stays
pub range-apply_missed : (w : Write) (img : List ℕ) (place n : ℕ) → Misses w place n → place + n ≤ length img → range (apply w img) place n ≡ range img place n
range-apply_missed w img place n misses fits =
    range_same (apply w img) img place n (omega (arith, length-apply w img)) fits
    (λ k low high.
    get_or-apply_missed w img k
    (elim misses [ inl before ↦ inl (omega arith) | inr after ↦ inr (omega arith) ]))

pub At-apply_missed : (w : Write) (img : List ℕ) (place : ℕ) (bytes : List ℕ) → Misses w place (length bytes) → At img place bytes → At (apply w img) place bytes
At-apply_missed w img place [] misses stands = refl
At-apply_missed w img place (b ∷ bs) misses stands =
    range-apply_missed w img place (length (b ∷ bs)) misses (At-fits img place (b ∷ bs) stands (omega arith)) ∙ stands

pub Holds-apply_missed : (w : Write) (img : List ℕ) (blocks : List (ℕ × List ℕ)) → MissesEach w blocks → Holds img blocks → Holds (apply w img) blocks
Holds-apply_missed w img [] misses holds = tt
Holds-apply_missed w img (block ∷ blocks) misses holds =
    (At-apply_missed w img block.0 block.1 misses.0 holds.0, Holds-apply_missed w img blocks misses.1 holds.1)

-- a part of a block is there
pub range-At : (img : List ℕ) (place : ℕ) (bytes : List ℕ) (i n : ℕ) → At img place bytes → i + n ≤ length bytes → range img (place + i) n ≡ range bytes i n
range-At img place bytes i zero stands fits = refl
range-At img place bytes i (suc m) stands fits =
    let n : ℕ = suc m in
    let end : place + length bytes ≤ length img = At-fits img place bytes stands (omega arith) in
    let l : length (range bytes i n) ≡ n = length-range bytes i n ∙ omega arith in
    let l2 : length (range img (place + i) n) ≡ n = length-range img (place + i) n ∙ omega arith in
    ext_get_or 0 (range img (place + i) n) (range bytes i n) (l2 ∙ sym l)
    (λ k lt.
    let short : k < n = omega arith in
    get_or-range img (place + i) n k short
    ∙ ap (λ j. get_or img j 0) (omega arith)
    ∙ get_or-At img place bytes (i + k) stands (omega arith)
    ∙ sym (get_or-range bytes i n k short))

pub At-part : (img : List ℕ) (place : ℕ) (bytes : List ℕ) (i n : ℕ) → At img place bytes → i + n ≤ length bytes → At img (place + i) (range bytes i n)
At-part img place bytes i n stands fits =
    let l : length (range bytes i n) ≡ n = length-range bytes i n ∙ omega arith in
    ap (λ m. range img (place + i) m) l ∙ range-At img place bytes i n stands fits

pub At-front : (img : List ℕ) (place : ℕ) (front rest : List ℕ) → At img place (front ++ rest) → At img place front
At-front img place front rest both =
    let l : length (front ++ rest) ≡ length front + length rest = length-append front rest in
    let cut : range (front ++ rest) 0 (length front) ≡ front = take_at front rest (length front) refl in
    ap (λ p. range img p (length front)) (omega arith) ∙ range-At img place (front ++ rest) 0 (length front) both (omega arith) ∙ cut

pub At-rest : (img : List ℕ) (place : ℕ) (front rest : List ℕ) → At img place (front ++ rest) → At img (place + length front) rest
At-rest img place front rest both =
    let l : length (front ++ rest) ≡ length front + length rest = length-append front rest in
    let cut : range (front ++ rest) (length front) (length rest) ≡ rest =
    ap (λ (b : List ℕ). take (length rest) b) (drop_at front rest (length front) refl) ∙ take_all (length rest) rest (omega arith) in
    range-At img place (front ++ rest) (length front) (length rest) both (omega arith) ∙ cut

-- a range that has all its bytes stands at its place
pub At-range : (img : List ℕ) (place n : ℕ) → place + n ≤ length img → At img place (range img place n)
At-range img place n fits = ap (λ m. range img place m) (length-range img place n ∙ omega arith)

pub Holds-append : (img : List ℕ) (some more : List (ℕ × List ℕ)) → Holds img some → Holds img more → Holds img (some ++ more)
Holds-append img [] more h g = g
Holds-append img (block ∷ blocks) more h g = (h.0, Holds-append img blocks more h.1 g)

pub Holds-front : (img : List ℕ) (some more : List (ℕ × List ℕ)) → Holds img (some ++ more) → Holds img some
Holds-front img [] more h = tt
Holds-front img (block ∷ blocks) more h = (h.0, Holds-front img blocks more h.1)

pub Holds-rest : (img : List ℕ) (some more : List (ℕ × List ℕ)) → Holds img (some ++ more) → Holds img more
Holds-rest img [] more h = h
Holds-rest img (block ∷ blocks) more h = Holds-rest img blocks more h.1

-- the image after a history and one more write
pub image-append : (start : List ℕ) (ws more : List Write) → image start (ws ++ more) ≡ image (image start ws) more
image-append start [] more = refl
image-append start (w ∷ ws) more = image-append (apply w start) ws more

pub image-push : (start : List ℕ) (ws : List Write) (w : Write) → image start (ws ++ w ∷ []) ≡ apply w (image start ws)
image-push start ws w = image-append start ws (w ∷ [])

-- a write never shortens an image, and no history does
pub apply-grows : (w : Write) (img : List ℕ) → length img ≤ length (apply w img)
apply-grows w img = omega (arith, length-apply w img)

pub image-grows : (start : List ℕ) (ws : List Write) → length start ≤ length (image start ws)
image-grows start [] = omega arith
image-grows start (w ∷ ws) = omega (arith, apply-grows w start, image-grows (apply w start) ws)

pub AllMiss-append : (ws more : List Write) (place n : ℕ) → AllMiss ws place n → AllMiss more place n → AllMiss (ws ++ more) place n
AllMiss-append [] more place n h g = g
AllMiss-append (w ∷ ws) more place n h g = (h.0, AllMiss-append ws more place n h.1 g)

pub At-image_missed : (start : List ℕ) (ws : List Write) (place : ℕ) (bytes : List ℕ) → AllMiss ws place (length bytes) → At start place bytes → At (image start ws) place bytes
At-image_missed start [] place bytes misses stands = stands
At-image_missed start (w ∷ ws) place bytes misses stands =
    At-image_missed (apply w start) ws place bytes misses.1 (At-apply_missed w start place bytes misses.0 stands)

pub range-image_missed : (start : List ℕ) (ws : List Write) (place n : ℕ) → AllMiss ws place n → place + n ≤ length start → range (image start ws) place n ≡ range start place n
range-image_missed start [] place n misses fits = refl
range-image_missed start (w ∷ ws) place n misses fits =
    range-image_missed (apply w start) ws place n misses.1 (omega (arith, apply-grows w start))
    ∙ range-apply_missed w start place n misses.0 fits

-- a write whose place is where the one before it ended makes one write of both
pub apply-joined : (place : ℕ) (front rest : List ℕ) (img : List ℕ)
    → apply (record { at = place + length front; piece = rest }) (apply (record { at = place; piece = front }) img) ≡ apply (record { at = place; piece = front ++ rest }) img
apply-joined place front rest img =
    let first : Write = record { at = place; piece = front } in
    let second : Write = record { at = place + length front; piece = rest } in
    let both : Write = record { at = place; piece = front ++ rest } in
    let l : length (front ++ rest) ≡ length front + length rest = length-append front rest in
    ext_get_or 0 (apply second (apply first img)) (apply both img)
    (length-apply second (apply first img) ∙ omega (arith, length-apply first img, length-apply both img))
    (λ k lt.
    elim (cases_lt k place) [
      | inl low ↦
          get_or-apply_before second (apply first img) k (omega arith) ∙ get_or-apply_before first img k low
          ∙ sym (get_or-apply_before both img k low)
      | inr from ↦ elim (cases_lt k (place + length front)) [
        | inl mid ↦
            let j : ℕ = k - place in
            let e : place + j ≡ k = omega arith in
            get_or-apply_before second (apply first img) k mid
            ∙ ap (λ i. get_or (apply first img) i 0) (sym e)
            ∙ get_or-apply_in first img j (omega arith)
            ∙ sym (get_or_append_left front rest 0 j (omega arith))
            ∙ sym (get_or-apply_in both img j (omega arith))
            ∙ ap (λ i. get_or (apply both img) i 0) e
        | inr past ↦ elim (cases_lt k (place + length (front ++ rest))) [
          | inl high ↦
              let j : ℕ = k - (place + length front) in
              let e : (place + length front) + j ≡ k = omega arith in
              let f : place + (length front + j) ≡ k = omega arith in
              ap (λ i. get_or (apply second (apply first img)) i 0) (sym e)
              ∙ get_or-apply_in second (apply first img) j (omega arith)
              ∙ sym (get_or-append-add front rest j 0)
              ∙ sym (get_or-apply_in both img (length front + j) (omega arith))
              ∙ ap (λ i. get_or (apply both img) i 0) f
          | inr after ↦
              get_or-apply_after second (apply first img) k (omega arith)
              ∙ get_or-apply_after first img k (omega arith)
              ∙ sym (get_or-apply_after both img k after)
        ]
      ]
    ])

pub length-first_pieces : (k place : ℕ) (bytes : List ℕ) → length (first_pieces k place bytes) ≡ k
unfolding first_pieces
length-first_pieces zero place bytes = refl
length-first_pieces (suc k) place bytes = ap suc (length-first_pieces k (place + 512) (drop 512 bytes))

pub first_pieces-image : (k place : ℕ) (bytes img : List ℕ) → 0 < length bytes → length bytes ≤ 512 * k → 512 * k < length bytes + 512
    → image img (first_pieces k place bytes) ≡ apply (record { at = place; piece = bytes }) img
unfolding first_pieces
first_pieces-image zero place bytes img some reach near = absurd (omega arith)
first_pieces-image (suc k) place bytes img some reach near =
    elim (cases_lt 512 (length bytes)) [
      | inl long ↦
          let l : length (drop 512 bytes) ≡ length bytes - 512 = length-drop 512 bytes in
          let f : length (take 512 bytes) ≡ 512 = length-take-le 512 bytes (omega arith) in
          first_pieces-image k (place + 512) (drop 512 bytes) (apply (record { at = place; piece = take 512 bytes }) img) (omega arith) (omega arith) (omega arith)
          ∙ ap (λ p. apply (record { at = place + p; piece = drop 512 bytes }) (apply (record { at = place; piece = take 512 bytes }) img)) (sym f)
          ∙ apply-joined place (take 512 bytes) (drop 512 bytes) img
          ∙ ap (λ (b : List ℕ). apply (record { at = place; piece = b }) img) (take-append-drop 512 bytes)
      | inr short ↦
          let none : k ≡ 0 = omega arith in
          ap (λ j. image (apply (record { at = place; piece = take 512 bytes }) img) (first_pieces j (place + 512) (drop 512 bytes))) none
          ∙ ap (λ (b : List ℕ). apply (record { at = place; piece = b }) img) (take_all 512 bytes short)
    ]

pub first_pieces-sized : (k place : ℕ) (bytes : List ℕ) → 512 * k < length bytes + 512 → AllSized (first_pieces k place bytes)
unfolding first_pieces
first_pieces-sized zero place bytes near = tt
first_pieces-sized (suc k) place bytes near =
    let l : length (take 512 bytes) ≡ min 512 (length bytes) = length-take 512 bytes in
    let d : length (drop 512 bytes) ≡ length bytes - 512 = length-drop 512 bytes in (
      (omega arith, omega arith),
      elim (cases_lt 0 k) [
        | inl more ↦ first_pieces-sized k (place + 512) (drop 512 bytes) (omega arith)
        | inr last ↦
            let none : 0 ≡ k = omega arith in
            subst (λ j. AllSized (first_pieces j (place + 512) (drop 512 bytes))) none tt
      ],
    )

pub first_pieces-miss : (k place : ℕ) (bytes : List ℕ) (a n : ℕ) → 512 * k < length bytes + 512 → Apart place (length bytes) a n → AllMiss (first_pieces k place bytes) a n
unfolding first_pieces
first_pieces-miss zero place bytes a n near apart = tt
first_pieces-miss (suc k) place bytes a n near apart =
    let l : length (take 512 bytes) ≡ min 512 (length bytes) = length-take 512 bytes in
    let d : length (drop 512 bytes) ≡ length bytes - 512 = length-drop 512 bytes in (
      elim apart [ inl below ↦ inl (omega arith) | inr above ↦ inr above ],
      elim (cases_lt 0 k) [
        | inl more ↦
            first_pieces-miss k (place + 512) (drop 512 bytes) a n (omega arith)
            (elim apart [ inl below ↦ inl (omega arith) | inr above ↦ inr (omega arith) ])
        | inr last ↦
            let none : 0 ≡ k = omega arith in
            subst (λ j. AllMiss (first_pieces j (place + 512) (drop 512 bytes)) a n) none tt
      ],
    )

pub length-pieces : (place : ℕ) (bytes : List ℕ) → length (pieces place bytes) ≡ (length bytes + 511) / 512
unfolding pieces
length-pieces place bytes = length-first_pieces ((length bytes + 511) / 512) place bytes

-- all pieces of a block are one write of the block
pub image-pieces : (img : List ℕ) (place : ℕ) (bytes : List ℕ) → 0 < length bytes → image img (pieces place bytes) ≡ apply (record { at = place; piece = bytes }) img
unfolding pieces
image-pieces img place bytes some =
    first_pieces-image ((length bytes + 511) / 512) place bytes img some (omega arith) (omega arith)

-- a block is there once all its pieces were written
pub At-pieces : (img : List ℕ) (place : ℕ) (bytes : List ℕ) → At (image img (pieces place bytes)) place bytes
At-pieces img place [] = refl
At-pieces img place (b ∷ bs) =
    let w : Write = record { at = place; piece = b ∷ bs } in
    subst (λ (i : List ℕ). At i place (b ∷ bs)) (sym (image-pieces img place (b ∷ bs) (omega arith))) (At-apply w img)

pub pieces-sized : (place : ℕ) (bytes : List ℕ) → AllSized (pieces place bytes)
unfolding pieces
pieces-sized place bytes = first_pieces-sized ((length bytes + 511) / 512) place bytes (omega arith)

-- the pieces of a block miss what the block misses
pub pieces-miss : (place : ℕ) (bytes : List ℕ) (a n : ℕ) → Apart place (length bytes) a n → AllMiss (pieces place bytes) a n
unfolding pieces
pieces-miss place bytes a n apart = first_pieces-miss ((length bytes + 511) / 512) place bytes a n (omega arith) apart

pub AllMissEach-cons : (ws : List Write) (block : ℕ × List ℕ) (blocks : List (ℕ × List ℕ)) → AllMiss ws block.0 (length block.1) → AllMissEach ws blocks → AllMissEach ws (block ∷ blocks)
AllMissEach-cons [] block blocks first rest = tt
AllMissEach-cons (w ∷ ws) block blocks first rest = ((first.0, rest.0), AllMissEach-cons ws block blocks first.1 rest.1)

pub AllMissEach-nil : (ws : List Write) → AllMissEach ws []
AllMissEach-nil [] = tt
AllMissEach-nil (w ∷ ws) = (tt, AllMissEach-nil ws)

pub pieces-miss_each : (place : ℕ) (bytes : List ℕ) (blocks : List (ℕ × List ℕ)) → ApartEach place (length bytes) blocks → AllMissEach (pieces place bytes) blocks
pieces-miss_each place bytes [] apart = AllMissEach-nil (pieces place bytes)
pieces-miss_each place bytes (block ∷ blocks) apart =
    AllMissEach-cons (pieces place bytes) block blocks (pieces-miss place bytes block.0 (length block.1) apart.0) (pieces-miss_each place bytes blocks apart.1)

pub Holds-image_missed : (start : List ℕ) (ws : List Write) (blocks : List (ℕ × List ℕ)) → AllMissEach ws blocks → Holds start blocks → Holds (image start ws) blocks
Holds-image_missed start [] blocks misses holds = holds
Holds-image_missed start (w ∷ ws) blocks misses holds =
    Holds-image_missed (apply w start) ws blocks misses.1 (Holds-apply_missed w start blocks misses.0 holds)

pub AllSized-append : (ws more : List Write) → AllSized ws → AllSized more → AllSized (ws ++ more)
AllSized-append [] more h g = g
AllSized-append (w ∷ ws) more h g = (h.0, AllSized-append ws more h.1 g)

pub Apart-sym : (a m b n : ℕ) → Apart a m b n → Apart b n a m
Apart-sym a m b n (inl below) = inr below
Apart-sym a m b n (inr above) = inl above

-- parts of two ranges that do not meet do not meet
pub Apart-part : (a m b n c k d j : ℕ) → a ≤ c → c + k ≤ a + m → b ≤ d → d + j ≤ b + n → Apart a m b n → Apart c k d j
Apart-part a m b n c k d j h1 h2 h3 h4 (inl below) = inl (omega arith)
Apart-part a m b n c k d j h1 h2 h3 h4 (inr above) = inr (omega arith)

-- a write past the end leaves zeros before it; one inside keeps what is behind it
pub example : image [] (record { at = 2; piece = 7 ∷ 8 ∷ [] } ∷ record { at = 1; piece = 9 ∷ [] } ∷ []) ≡ 0 ∷ 9 ∷ 7 ∷ 8 ∷ []
unfolding apply
example = refl
