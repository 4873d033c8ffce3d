-- Lists of which only the first n elements are kept.
use Rattle.std.proofs.Common.{◌≡◌, ℕ, ◌+◌, ◌<◌, ◌≤◌, List, [], ◌∷◌, ◌++◌, length, get_or, take, set, ap, sym, ◌∙◌, arith, inl, inr}
use Rattle.std.specs.List.{flat_map}
use Rattle.std.proofs.lemmas.Bool.{cases_lt}
use Rattle.h5w_ohdr.proofs.Pieces.{pieces_more}
use Rattle.std.proofs.lemmas.List.{append-nil, take_all, take-append-le, take_more_set, length-take, length_push}

-- a place left: the new element is the last
pub capped_more : {X : Type 0} (n len : ℕ) (list now : List X) (x : X) → len < n → length list ≡ n → now ≡ take len list → take (len + 1) (set list len x) ≡ take n (now ++ x ∷ [])
capped_more n len list now x h full e =
    let room : length (take len list ++ x ∷ []) ≤ n = omega (arith, length_push (take len list) x, length-take len list) in
    take_more_set list len x (omega arith) ∙ sym (take_all n (take len list ++ x ∷ []) room) ∙ ap (λ xs. take n (xs ++ x ∷ [])) (sym e)

-- none left: nothing is added
pub capped_full : {X : Type 0} (n : ℕ) (now : List X) (x : X) → length now ≡ n → now ≡ take n (now ++ x ∷ [])
capped_full n now x e = sym (take-append-le n now (x ∷ []) (omega arith) ∙ take_all n now (omega arith))

-- what was cut off before stays cut off
pub take-capped : {X : Type 0} (n : ℕ) (xs ys : List X) → take n (take n xs ++ ys) ≡ take n (xs ++ ys)
take-capped n xs ys =
    elim (cases_lt (length xs) n) [
      | inl short ↦ ap (λ zs. take n (zs ++ ys)) (take_all n xs (omega arith))
      | inr long ↦ take-append-le n (take n xs) ys (omega (arith, length-take n xs)) ∙ take_all n (take n xs) (omega (arith, length-take n xs)) ∙ sym (take-append-le n xs ys (omega arith))
    ]

-- the elements of one message more
pub capped_step : {X Y : Type 0} (n : ℕ) (f : Y → List X) (ys : List Y) (i : ℕ) (y : Y) (now new : List X) → i < length ys → y ≡ get_or ys i y → now ≡ take n (flat_map f (take i ys)) → new ≡ take n (now ++ f y) → new ≡ take n (flat_map f (take (i + 1) ys))
capped_step n f ys i y now new h r e s =
    s ∙ ap (λ xs. take n (xs ++ f y)) e ∙ take-capped n (flat_map f (take i ys)) (f y) ∙ ap (take n) (sym (pieces_more f ys i y h r))

-- nothing is added
pub capped_same : {X : Type 0} (n : ℕ) (now xs : List X) → now ≡ take n xs → now ≡ take n (now ++ [])
capped_same n now xs e =
    sym (ap (λ zs. take n (zs ++ [])) e ∙ take-capped n xs [] ∙ ap (take n) (append-nil xs) ∙ sym e)
