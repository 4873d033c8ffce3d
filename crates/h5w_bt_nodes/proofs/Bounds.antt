-- Sums, and how many records a node can have.
use Rattle.std.proofs.Common.{◌≡◌, ℕ, zero, suc, ◌+◌, ◌*◌, ◌<◌, ◌≤◌, List, [], ◌∷◌, length, map, take, drop, get_or, sym, ap, ◌∙◌, arith, sum_by, take-append-drop}
use Rattle.std.proofs.lemmas.List.{map_more, map-append}
use Rattle.std.proofs.lemmas.List.Sums.{sum_by-cons, sum_by-append, sum_by_push}
use Rattle.std.proofs.lemmas.List.Elements.{All-head, All-tail}
use Rattle.std.specs.List.{All}
use Rattle.h5w_model.specs.Trees.{capacity_of}

pub sum_by_most : {A : Type 0} (f : A → ℕ) (B : ℕ) (xs : List A) → All (λ (x : A). f x ≤ B) xs → sum_by f xs ≤ length xs * B
sum_by_most f B [] h = omega arith
sum_by_most f B (x ∷ xs) h =
    let P : _ → Type 0 = λ x. f x ≤ B in
    let a : f x ≤ B = All-head P x xs h in
    let b : sum_by f xs ≤ length xs * B = sum_by_most f B xs (All-tail P x xs h) in
    omega (arith, sum_by-cons f x xs, a, b)

pub room_small : (d : ℕ) → d ≤ 3 → capacity_of d ≤ 84
room_small zero h = omega arith
room_small (suc zero) h = omega arith
room_small (suc (suc zero)) h = omega arith
room_small (suc (suc (suc zero))) h = omega arith
room_small (suc (suc (suc (suc d)))) h = absurd (omega arith)

-- a sum as far as it has come
pub sum_more : {A B : Type 0} (f : B → ℕ) (F : A → B) (xs : List A) (i : ℕ) (d : A) → i < length xs →
    sum_by f (map F (take (i + 1) xs)) ≡ sum_by f (map F (take i xs)) + f (F (get_or xs i d))
sum_more f F xs i d h = ap (sum_by f) (map_more F xs i d h) ∙ sum_by_push f (map F (take i xs)) (F (get_or xs i d))

pub sum_part : {A B : Type 0} (f : B → ℕ) (F : A → B) (xs : List A) (i : ℕ) → sum_by f (map F (take i xs)) ≤ sum_by f (map F xs)
sum_part f F xs i =
    let e : sum_by f (map F xs) ≡ sum_by f (map F (take i xs)) + sum_by f (map F (drop i xs)) =
    ap (λ (l : List _). sum_by f (map F l)) (sym (take-append-drop i xs)) ∙ ap (sum_by f) (map-append F (take i xs) (drop i xs))
    ∙ sum_by-append f (map F (take i xs)) (map F (drop i xs)) in
    omega (arith, e)
