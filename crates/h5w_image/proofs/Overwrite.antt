-- A write as the code makes it: the image is filled up with zeros to the write's end, and then the piece goes over its place.
use Rattle.std.proofs.Common.{ℕ, ◌+◌, ◌-◌, ◌≤◌, ◌≡◌, List, ◌++◌, length, take, drop, replicate, sym, ap, ◌∙◌, inl, inr, arith, length-append}
use Rattle.std.proofs.lemmas.List.{append-nil, take-append-le, take-replicate, take_all, drop_all, length-replicate}
use Rattle.std.proofs.Math.Seq.{take-append-add}
use Rattle.std.proofs.lemmas.Bool.{cases_lt}
use Rattle.h5w_model.specs.Images.{apply}
use Rattle.h5w_model.proofs.ImageLemmas.{image-push}

-- the front of an image that was filled up
filled_front : (at n : ℕ) (img : List ℕ) → at - length img ≤ n → take at (img ++ replicate n 0) ≡ take at img ++ replicate (at - length img) 0
filled_front at n img h =
    elim (cases_lt (length img) at) [
      | inl past ↦
          let e : length img + (at - length img) ≡ at = omega arith in
          ap (λ k. take k (img ++ replicate n 0)) (sym e)
          ∙ take-append-add img (replicate n 0) (at - length img)
          ∙ ap (λ (z : List ℕ). img ++ z) (take-replicate (at - length img) n 0 h)
          ∙ ap (λ (front : List ℕ). front ++ replicate (at - length img) 0) (sym (take_all at img (omega arith)))
      | inr within ↦
          let none : at - length img ≡ 0 = omega arith in
          take-append-le at img (replicate n 0) within
          ∙ sym (append-nil (take at img))
          ∙ ap (λ k. take at img ++ replicate k 0) (sym none)
    ]

-- nothing is behind it but what was there
filled_rest : (end : ℕ) (img : List ℕ) → drop end (img ++ replicate (end - length img) 0) ≡ drop end img
filled_rest end img =
    elim (cases_lt (length img) end) [
      | inl past ↦
          let l : length (img ++ replicate (end - length img) 0) ≡ end = simp (length-append, length-replicate) (omega arith) in
          drop_all end (img ++ replicate (end - length img) 0) (omega arith) ∙ sym (drop_all end img (omega arith))
      | inr within ↦
          let none : end - length img ≡ 0 = omega arith in
          ap (λ n. drop end (img ++ replicate n 0)) none ∙ ap (λ (b : List ℕ). drop end b) (append-nil img)
    ]

pub over_filled : (at : ℕ) (piece img filled : List ℕ) → filled ≡ img ++ replicate (at + length piece - length img) 0
    → (take at filled ++ piece) ++ drop (at + length piece) filled ≡ apply (record { at = at; piece = piece }) img
unfolding apply
over_filled at piece img filled is =
    let end : ℕ = at + length piece in
    let zeros : List ℕ = replicate (end - length img) 0 in
    let l : length zeros ≡ end - length img = length-replicate (end - length img) (let zero : ℕ = 0 in zero) in
    let rest : drop end filled ≡ drop end img = ap (λ (b : List ℕ). drop end b) is ∙ filled_rest end img in
    ap (λ (front : List ℕ). (take at filled ++ piece) ++ front) rest
    ∙ ap (λ (front : List ℕ). (front ++ piece) ++ drop end img)
    (ap (λ (b : List ℕ). take at b) is ∙ filled_front at (end - length img) img (omega arith))

pub ruleset histories = (image-push)
