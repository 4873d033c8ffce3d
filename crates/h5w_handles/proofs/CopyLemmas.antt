-- Values as numbers, up to the first that is none.
use Rattle.std.proofs.Common.{◌≡◌, ℕ, zero, suc, ◌<◌, ℤ, pos, List, [], ◌∷◌, ◌++◌, length, take, drop, get_or, set, Option, Some, None, refl, ap, arith}
use Rattle.h5w_handles.specs.Copies.{front, in_front}

more_in_front : {A : Type 0} (o : Option A) (xs ys : List A) (a : A) (k : ℕ) → length (in_front o xs) ≡ suc k → (length xs ≡ k → ys ≡ xs ++ a ∷ []) → in_front o ys ≡ in_front o xs ++ a ∷ []
more_in_front None xs ys a k all next = absurd (omega (arith, all))
more_in_front (Some b) xs ys a k all next = ap (λ zs. b ∷ zs) (next (omega (arith, all)))

-- behind numbers alone one more is the next
pub front_more : {A : Type 0} (f : ℤ → Option A) (vs : List ℤ) (k : ℕ) (a : A) → k < length vs → f (get_or vs k (pos 0)) ≡ Some a → length (front f (take k vs)) ≡ k → front f (take (suc k) vs) ≡ front f (take k vs) ++ a ∷ []
front_more f [] k a h is all = absurd (omega (arith, h))
front_more f (v ∷ vs) zero a h is all = ap (λ o. in_front o []) is
front_more f (v ∷ vs) (suc k) a h is all = more_in_front (f v) (front f (take k vs)) (front f (take (suc k) vs)) a k all (front_more f vs k a (omega (arith, h)) is)

same_in_front : {A : Type 0} (o : Option A) (xs ys : List A) (k : ℕ) → length (in_front o xs) ≡ suc k → (length xs ≡ k → ys ≡ xs) → in_front o ys ≡ in_front o xs
same_in_front None xs ys k all next = refl
same_in_front (Some b) xs ys k all next = ap (λ zs. b ∷ zs) (next (omega (arith, all)))

-- behind numbers alone one that is none ends them
pub front_end : {A : Type 0} (f : ℤ → Option A) (vs : List ℤ) (k n : ℕ) → k < length vs → k < n → f (get_or vs k (pos 0)) ≡ None → length (front f (take k vs)) ≡ k → front f (take n vs) ≡ front f (take k vs)
front_end f vs k zero h less is all = absurd (omega (arith, less))
front_end f [] k (suc n) h less is all = absurd (omega (arith, h))
front_end f (v ∷ vs) zero (suc n) h less is all = ap (λ o. in_front o (front f (take n vs))) is
front_end f (v ∷ vs) (suc k) (suc n) h less is all = same_in_front (f v) (front f (take k vs)) (front f (take n vs)) k all (front_end f vs k n (omega (arith, h)) (omega (arith, less)) is)

-- a number behind the first ones takes the place of what was there
pub put_next : {A : Type 0} (xs out : List A) (k : ℕ) (a : A) → length xs ≡ k → k < length out → set (xs ++ drop k out) k a ≡ (xs ++ a ∷ []) ++ drop (suc k) out
put_next xs [] k a is h = absurd (omega (arith, h))
put_next [] (y ∷ out) zero a is h = refl
put_next [] (y ∷ out) (suc k) a is h = absurd (omega (arith, is))
put_next (x ∷ xs) (y ∷ out) zero a is h = absurd (omega (arith, is))
put_next (x ∷ xs) (y ∷ out) (suc k) a is h = ap (λ zs. x ∷ zs) (put_next xs out k a (omega (arith, is)) (omega (arith, h)))
