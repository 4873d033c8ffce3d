-- Blocks that stand and are written again.
use Rattle.std.proofs.Common.{◌≡◌, ℕ, ◌+◌, ◌-◌, ◌<◌, ◌≤◌, List, [], ◌∷◌, ◌++◌, length, refl, sym, ◌∙◌, ap, arith, append-nil, append_assoc}
use Rattle.std.specs.Prelude.{take, drop, replicate}
use Rattle.std.proofs.lemmas.List.{drop-drop, take-append-drop}
use Rattle.h5w_model.specs.Images.{At, Holds, apply, first_pieces, image, pieces}
use Rattle.h5w_model.specs.declared.piece.Write.{Write}
use Rattle.h5w_model.proofs.ImageLemmas.{At-fits, image-append, image-pieces}
use Rattle.h5w_flush_laws.specs.Parts.{block_writes}
use Rattle.h5w_packing_laws.specs.Growing.{own_blocks}

-- bytes that stand may be written again
pub written_again : (w : Write) (img : List ℕ) → 0 < length w.piece → At img w.at w.piece → apply w img ≡ img
unfolding apply
written_again w img some stands =
    let place : ℕ = w.at in
    let bytes : List ℕ = w.piece in
    let n : ℕ = length bytes in
    let end : place + n ≤ length img = At-fits img place bytes stands some in
    let none : place - length img ≡ 0 = omega (arith, end) in
    let front : take place img ++ replicate (place - length img) 0 ≡ take place img = ap (λ k. take place img ++ replicate k 0) none ∙ append-nil (take place img) in
    let behind : drop (place + n) img ≡ drop n (drop place img) = sym (drop-drop n place img) in
    ap (λ (xs : List ℕ). (xs ++ bytes) ++ drop (place + n) img) front
    ∙ ap (λ (xs : List ℕ). (take place img ++ bytes) ++ xs) behind
    ∙ ap (λ (xs : List ℕ). (take place img ++ xs) ++ drop n (drop place img)) (sym stands)
    ∙ append_assoc (take place img) (take n (drop place img)) (drop n (drop place img))
    ∙ ap (λ (xs : List ℕ). take place img ++ xs) (take-append-drop n (drop place img))
    ∙ take-append-drop place img

-- no piece is empty
abbrev pub AllFilled : List Write → Type 0
AllFilled [] = Unit {0}
AllFilled (w ∷ ws) = (0 < length w.piece) × AllFilled ws

pub writes_again : (img : List ℕ) (ws : List Write) → AllFilled ws → Holds img (own_blocks ws) → image img ws ≡ img
writes_again img [] some holds = refl
writes_again img (w ∷ ws) some holds = ap (λ (x : List ℕ). image x ws) (written_again w img some.0 holds.0) ∙ writes_again img ws some.1 holds.1

no_pieces : (place : ℕ) → pieces place [] ≡ []
unfolding pieces first_pieces
no_pieces place = refl

one_again : (img : List ℕ) (place : ℕ) (bytes : List ℕ) → At img place bytes → image img (pieces place bytes) ≡ img
one_again img place [] stands = ap (image img) (no_pieces place)
one_again img place (b ∷ bs) stands =
    let some : 0 < length (b ∷ bs) = omega arith in
    image-pieces img place (b ∷ bs) some ∙ written_again (record { at = place; piece = b ∷ bs }) img some stands

pub blocks_again : (img : List ℕ) (bs : List (ℕ × List ℕ)) → Holds img bs → image img (block_writes bs) ≡ img
blocks_again img [] holds = refl
blocks_again img (b ∷ bs) holds =
    image-append img (pieces b.0 b.1) (block_writes bs) ∙ ap (λ (x : List ℕ). image x (block_writes bs)) (one_again img b.0 b.1 holds.0) ∙ blocks_again img bs holds.1
