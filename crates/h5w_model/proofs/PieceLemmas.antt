-- The pieces of some bytes, one after another.
use Rattle.std.proofs.Common.{◌≡◌, ℕ, suc, ◌+◌, ◌/◌, ◌<◌, List, [], ◌∷◌, length, take, drop, sym, refl, ap, ◌∙◌, inl, inr, arith, length-drop, ◌++◌, min, length-append, subst}
use Rattle.std.proofs.lemmas.List.{length-take, drop_all, append_assoc, append-nil, nil_from_length, take_all}
use Rattle.std.proofs.lemmas.Bool.{cases_lt}
use Rattle.std.proofs.Math.Seq.{take-append_seam, drop-append_seam}
use Rattle.h5w_model.specs.Images.{first_pieces, pieces}
use Rattle.h5w_model.specs.declared.piece.Write.{Write}

pieces_step : (place : ℕ) (bytes : List ℕ) → 0 < length bytes → pieces place bytes ≡ record { at = place; piece = take 512 bytes } ∷ pieces (place + length (take 512 bytes)) (drop 512 bytes)
unfolding pieces first_pieces
pieces_step place bytes some =
    let first : Write = record { at = place; piece = take 512 bytes } in
    let count : (length bytes + 511) / 512 ≡ suc ((length (drop 512 bytes) + 511) / 512) = omega (arith, length-drop 512 bytes) in
    ap (λ (n : ℕ). first_pieces n place bytes) count ∙ ap (λ (ws : List Write). first ∷ ws)
    (elim (cases_lt (length bytes) 513) [
      | inl short ↦
          let none : drop 512 bytes ≡ [] = drop_all 512 bytes (omega arith) in
          rw none refl
      | inr long ↦
          let full : length (take 512 bytes) ≡ 512 = length-take 512 bytes ∙ omega arith in
          ap (λ (m : ℕ). first_pieces ((length (drop 512 bytes) + 511) / 512) (place + m) (drop 512 bytes)) (sym full)
    ])

pub pieces_more : (before done all : List Write) (at_place next : ℕ) (rest : List ℕ) → 0 < length rest → done ≡ before ++ record { at = at_place; piece = take 512 rest } ∷ [] → next ≡ at_place + length (take 512 rest)
    → before ++ pieces at_place rest ≡ all → done ++ pieces next (drop 512 rest) ≡ all
pieces_more before done all at_place next rest some added is goes =
    let w : Write = record { at = at_place; piece = take 512 rest } in
    ap (λ (d : List Write). d ++ pieces next (drop 512 rest)) added ∙ append_assoc before (w ∷ []) (pieces next (drop 512 rest))
    ∙ ap (λ (p : ℕ). before ++ w ∷ pieces p (drop 512 rest)) is ∙ ap (λ (ws : List Write). before ++ ws) (sym (pieces_step at_place rest some)) ∙ goes

pub pieces_all : (done all : List Write) (at_place : ℕ) (rest : List ℕ) → length rest ≡ 0 → done ++ pieces at_place rest ≡ all → done ≡ all
unfolding pieces first_pieces
pieces_all done all at_place rest none goes =
    sym (append-nil done) ∙ ap (λ (r : List ℕ). done ++ pieces at_place r) (sym (nil_from_length rest none)) ∙ goes

-- the first part of a list that is cut into parts of n
pub part_of : {A : Type 0} (rest part more : List A) (n : ℕ) → rest ≡ part ++ more → length part ≡ min n (length rest) → (take n rest ≡ part) × (drop n rest ≡ more)
part_of rest part more n is count =
    let all : length rest ≡ length part + length more = ap length is ∙ length-append part more in
    elim (cases_lt (length rest) n) [
      | inl short ↦
          let none : more ≡ [] = nil_from_length more (omega arith) in
          let only : rest ≡ part = is ∙ ap (λ ys. part ++ ys) none ∙ append-nil part in
          (take_all n rest (omega arith) ∙ only, drop_all n rest (omega arith) ∙ sym none)
      | inr long ↦
          let size : n ≡ length part = omega arith in
          (ap (take n) is ∙ ap (λ m. take m (part ++ more)) size ∙ take-append_seam part more, ap (drop n) is ∙ ap (λ m. drop m (part ++ more)) size ∙ drop-append_seam part more)
    ]

pub pieces_next : (before done all : List Write) (at_place : ℕ) (rest part more : List ℕ) → rest ≡ part ++ more → length part ≡ min 512 (length rest) → 0 < length rest
    → done ≡ before ++ record { at = at_place; piece = part } ∷ [] → before ++ pieces at_place rest ≡ all → done ++ pieces (at_place + length part) more ≡ all
pieces_next before done all at_place rest part more is count some added goes =
    let parts = part_of rest part more 512 is count in
    let w : List ℕ → Write = λ b. record { at = at_place; piece = b } in
    let first : done ≡ before ++ w (take 512 rest) ∷ [] = added ∙ ap (λ b. before ++ w b ∷ []) (sym parts.0) in
    let next = pieces_more before done all at_place (at_place + length part) rest some first (ap (λ b. at_place + length b) (sym parts.0)) goes in
    subst (λ (b : List ℕ). done ++ pieces (at_place + length part) b ≡ all) parts.1 next
