-- The child at a place, as the code reads it.
use Rattle.std.proofs.Common.{◌≡◌, ℕ, zero, suc, ◌+◌, ◌<◌, List, [], ◌∷◌, length, map, get_or, set, refl, sym, ap, ◌∙◌, arith, Some, slice_get, insert, add-one, take, drop, ap₂, ◌++◌}
use Rattle.h5w_bt_nodes.specs.Puts.{changed_at}
use Rattle.h5w_bt_nodes.proofs.Places.{some_same, changed-set, none_is_not}
use Rattle.std.proofs.lemmas.List.{map-append, map-set, take-map, drop-map}

pub insert-map : {A B : Type 0} (F : A → B) (k : ℕ) (xs : List A) (r : A) → map F (insert xs k r) ≡ insert (map F xs) k (F r)
insert-map F k xs r = map-append F (take k xs) (r ∷ drop k xs) ∙ ap₂ (λ (a b : List _). a ++ F r ∷ b) (sym (take-map F k xs)) (sym (drop-map F k xs))

pub map_in_two : {A B : Type 0} (F : A → B) (i : ℕ) (xs : List A) (l r : A) → map F (insert (set xs i l) (suc i) r) ≡ insert (set (map F xs) i (F l)) (suc i) (F r)
map_in_two F i xs l r = insert-map F (suc i) (set xs i l) r ∙ ap (λ (ys : List _). insert ys (suc i) (F r)) (map-set F xs i l)

pub get-map : {A B : Type 0} (F : A → B) (i : ℕ) (xs : List A) (c : A) → slice_get xs i ≡ Some c → slice_get (map F xs) i ≡ Some (F c)
get-map F i [] c e = absurd (none_is_not c e)
get-map F zero (x ∷ xs) c e = ap (λ (y : _). Some (F y)) (some_same x c e)
get-map F (suc i) (x ∷ xs) c e = get-map F i xs c e

-- what stands at a place of a list that is mapped
pub child-there : {A B : Type 0} (F : A → B) (xs : List A) (i : ℕ) (x : A) → i < length xs → x ≡ get_or xs i x → slice_get (map F xs) i ≡ Some (F x)
child-there F [] i x h e = absurd (omega arith)
child-there F (y ∷ xs) zero x h e = ap (λ (z : _). Some (F z)) (sym e)
child-there F (y ∷ xs) (suc i) x h e = child-there F xs i x (omega (arith, h)) e

pub child-is : {A B : Type 0} (F : A → B) (xs : List A) (i : ℕ) (x : A) (c : B) → i < length xs → x ≡ get_or xs i x → slice_get (map F xs) i ≡ Some c → F x ≡ c
child-is F xs i x c h e q = some_same (F x) c (sym (child-there F xs i x h e) ∙ q)

-- a list of which one element was changed to one of the same meaning
pub same-child : {A B : Type 0} (F : A → B) (xs : List A) (i : ℕ) (x y : A) → x ≡ get_or xs i x → F y ≡ F x → map F (set xs i y) ≡ map F xs
same-child F [] i x y e h = refl
same-child F (z ∷ xs) zero x y e h = ap (λ (w : _). w ∷ map F xs) (h ∙ ap F e)
same-child F (z ∷ xs) (suc i) x y e h = ap (λ (l : List _). F z ∷ l) (same-child F xs i x y e h)

-- the element at a place in two
pub in-two : {A B : Type 0} (F : A → B) (xs : List A) (i : ℕ) (y r : A) (l m : B) → F y ≡ l → F r ≡ m →
    map F (insert (set xs i y) (i + 1) r) ≡ insert (set (map F xs) i l) (suc i) m
in-two F xs i y r l m e f =
    ap (λ (k : ℕ). map F (insert (set xs i y) k r)) (add-one i) ∙ map_in_two F i xs y r
    ∙ ap (λ (z : _). insert (set (map F xs) i z) (suc i) (F r)) e ∙ ap (λ (z : _). insert (set (map F xs) i l) (suc i) z) f

pub get-there : {A : Type 0} (xs : List A) (i : ℕ) (x : A) → i < length xs → x ≡ get_or xs i x → slice_get xs i ≡ Some x
get-there [] i x h e = absurd (omega arith)
get-there (y ∷ xs) zero x h e = ap (λ (z : _). Some z) (sym e)
get-there (y ∷ xs) (suc i) x h e = get-there xs i x (omega (arith, h)) e

pub changed-here : {A B : Type 0} (F : A → B) (f : B → B) (xs : List A) (i : ℕ) (x y : A) → i < length xs → x ≡ get_or xs i x → F y ≡ f (F x) → map F (set xs i y) ≡ changed_at i f (map F xs)
changed-here F f xs i x y h e q = changed-set F f i xs x y (get-there xs i x h e) q
