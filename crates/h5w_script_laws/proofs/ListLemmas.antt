-- What a list contains.
use Rattle.std.proofs.Common.{◌≡◌, zero, suc, List, [], ◌∷◌, ◌++◌, map, reverse, Contains, refl, sym, subst, arith}
use Rattle.std.proofs.lemmas.List.{reverse-append}
use Rattle.std.proofs.lemmas.List.Elements.{Contains-append_left, Contains-push}

pub contains_first : {A : Type 0} (x : A) (xs : List A) → Contains (x ∷ xs) x
contains_first x xs = (0, omega arith, refl)

pub contains_behind : {A : Type 0} (y x : A) (xs : List A) → Contains xs x → Contains (y ∷ xs) x
contains_behind y x xs h = (suc h.0, omega (arith, h.1), h.2)

pub contains_mapped : {A B : Type 0} (f : A → B) (xs : List A) (x : A) → Contains xs x → Contains (map f xs) (f x)
contains_mapped f [] x h = absurd (omega (arith, h.1))
contains_mapped {A} {B} f (y ∷ ys) x (zero, within, is) = subst (λ (z : A). Contains (map f (y ∷ ys)) (f z)) is (contains_first (f y) (map f ys))
contains_mapped f (y ∷ ys) x (suc k, within, is) = contains_behind (f y) (f x) (map f ys) (contains_mapped f ys x (k, omega arith, is))

reverse_first : {A : Type 0} (x : A) (xs : List A) → reverse (x ∷ xs) ≡ reverse xs ++ x ∷ []
reverse_first x xs = reverse-append (x ∷ []) xs

pub contains_reversed : {A : Type 0} (xs : List A) (x : A) → Contains xs x → Contains (reverse xs) x
contains_reversed [] x h = absurd (omega (arith, h.1))
contains_reversed {A} (y ∷ ys) x (zero, within, is) =
    subst (λ (zs : List A). Contains zs x) (sym (reverse_first y ys)) (subst (λ (z : A). Contains (reverse ys ++ y ∷ []) z) is (Contains-push (reverse ys) y))
contains_reversed {A} (y ∷ ys) x (suc k, within, is) =
    subst (λ (zs : List A). Contains zs x) (sym (reverse_first y ys))
    (Contains-append_left (reverse ys) (y ∷ []) x (contains_reversed ys x (k, omega arith, is)))
