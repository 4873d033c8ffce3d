-- Lists with an element changed at a place.
use Rattle.std.proofs.Common.{◌≡◌, ℕ, zero, suc, ◌<◌, List, [], ◌∷◌, ◌++◌, length, map, get_or, set, take, drop, insert, refl, sym, ap, subst, ◌∙◌, arith, Some, None, slice_get}
use Rattle.std.proofs.lemmas.List.Elements.{All-cons, All-head, All-tail, All-nil}
use Rattle.std.specs.List.{All}
use Rattle.h5w_bt_nodes.specs.Puts.{changed_at}

pub some_same : {A : Type 0} (b c : A) → Some b ≡ Some c → b ≡ c
some_same b c e = cc

pub none_is_not : {A : Type 0} (c : A) → None ≡ Some c → ⊥
none_is_not c e = cc

-- the element at a place is one of them
pub at_place : {A : Type 0} (P : A → Type 0) (xs : List A) (i : ℕ) (c : A) → All P xs → slice_get xs i ≡ Some c → P c
at_place P [] i c h e = absurd (none_is_not c e)
at_place P (x ∷ xs) zero c h e = subst P (some_same x c e) (All-head P x xs h)
at_place P (x ∷ xs) (suc i) c h e = at_place P xs i c (All-tail P x xs h) e

-- at a place inside there is one
pub there_is : {A : Type 0} (xs : List A) (i : ℕ) → i < length xs → (c : A) × (slice_get xs i ≡ Some c)
there_is [] i h = absurd (omega arith)
there_is (x ∷ xs) zero h = (x, refl)
there_is (x ∷ xs) (suc i) h = there_is xs i (omega (arith, h))

pub inside_from : {A : Type 0} (xs : List A) (i : ℕ) (c : A) → slice_get xs i ≡ Some c → i < length xs
inside_from [] i c e = absurd (none_is_not c e)
inside_from (x ∷ xs) zero c e = omega arith
inside_from (x ∷ xs) (suc i) c e = omega (arith, inside_from xs i c e)

pub length-changed : {A : Type 0} (i : ℕ) (f : A → A) (xs : List A) → length (changed_at i f xs) ≡ length xs
length-changed i f [] = refl
length-changed zero f (x ∷ xs) = refl
length-changed (suc i) f (x ∷ xs) = ap suc (length-changed i f xs)

-- what a change gives where it was made
pub get-changed : {A : Type 0} (i : ℕ) (f : A → A) (xs : List A) (c : A) → slice_get xs i ≡ Some c → slice_get (changed_at i f xs) i ≡ Some (f c)
get-changed i f [] c e = absurd (none_is_not c e)
get-changed zero f (x ∷ xs) c e = ap (λ (y : _). Some (f y)) (some_same x c e)
get-changed (suc i) f (x ∷ xs) c e = get-changed i f xs c e

-- what a map makes of a change
pub map-changed : {A B : Type 0} (P : A → Type 0) (F : A → B) (f : A → A) (g : B → B) → ((c : A) → P c → F (f c) ≡ g (F c)) →
    (i : ℕ) (xs : List A) → All P xs → map F (changed_at i f xs) ≡ changed_at i g (map F xs)
map-changed P F f g k i [] h = refl
map-changed P F f g k zero (x ∷ xs) h = ap (λ (y : _). y ∷ map F xs) (k x (All-head P x xs h))
map-changed P F f g k (suc i) (x ∷ xs) h = ap (λ (l : List _). F x ∷ l) (map-changed P F f g k i xs (All-tail P x xs h))

-- a change of the element at a place is a set there
pub changed-set : {A B : Type 0} (F : A → B) (f : B → B) (i : ℕ) (xs : List A) (c d : A) → slice_get xs i ≡ Some c → F d ≡ f (F c) →
    map F (set xs i d) ≡ changed_at i f (map F xs)
changed-set F f i [] c d e h = absurd (none_is_not c e)
changed-set F f zero (x ∷ xs) c d e h = ap (λ (y : _). y ∷ map F xs) (h ∙ ap (λ (y : _). f (F y)) (sym (some_same x c e)))
changed-set F f (suc i) (x ∷ xs) c d e h = ap (λ (l : List _). F x ∷ l) (changed-set F f i xs c d e h)

pub All-changed_at : {A : Type 0} (P : A → Type 0) (f : A → A) (i : ℕ) (xs : List A) (c : A) → slice_get xs i ≡ Some c → P (f c) → All P xs → All P (changed_at i f xs)
All-changed_at P f i [] c e p h = absurd (none_is_not c e)
All-changed_at P f zero (x ∷ xs) c e p h = All-cons P (f x) xs (subst (λ (y : _). P (f y)) (sym (some_same x c e)) p) (All-tail P x xs h)
All-changed_at P f (suc i) (x ∷ xs) c e p h = All-cons P x (changed_at i f xs) (All-head P x xs h) (All-changed_at P f i xs c e p (All-tail P x xs h))

-- the element at a place in two
pub All-in_two : {A : Type 0} (P : A → Type 0) (f : A → A) (i : ℕ) (xs : List A) (l r : A) → i < length xs → P l → P r → All P xs →
    All P (insert (set (changed_at i f xs) i l) (suc i) r)
All-in_two P f i [] l r n p q h = absurd (omega arith)
All-in_two P f zero (x ∷ xs) l r n p q h = All-cons P l (r ∷ xs) p (All-cons P r xs q (All-tail P x xs h))
All-in_two P f (suc i) (x ∷ xs) l r n p q h =
    All-cons P x (insert (set (changed_at i f xs) i l) (suc i) r) (All-head P x xs h) (All-in_two P f i xs l r (omega (arith, n)) p q (All-tail P x xs h))

pub All-taken : {A : Type 0} (P : A → Type 0) (n : ℕ) (xs : List A) → All P xs → All P (take n xs)
All-taken P zero xs h = All-nil P
All-taken P (suc n) [] h = All-nil P
All-taken P (suc n) (x ∷ xs) h = All-cons P x (take n xs) (All-head P x xs h) (All-taken P n xs (All-tail P x xs h))

pub All-dropped : {A : Type 0} (P : A → Type 0) (n : ℕ) (xs : List A) → All P xs → All P (drop n xs)
All-dropped P zero xs h = h
All-dropped P (suc n) [] h = All-nil P
All-dropped P (suc n) (x ∷ xs) h = All-dropped P n xs (All-tail P x xs h)

pub All-each : {A : Type 0} (P Q : A → Type 0) → ((c : A) → P c → Q c) → (xs : List A) → All P xs → All Q xs
All-each P Q k [] h = All-nil Q
All-each P Q k (x ∷ xs) h = All-cons Q x xs (k x (All-head P x xs h)) (All-each P Q k xs (All-tail P x xs h))

pub cut-list : {A : Type 0} (k : ℕ) (xs : List A) (d : A) → k < length xs → xs ≡ take k xs ++ get_or xs k d ∷ drop (suc k) xs
cut-list k [] d h = absurd (omega arith)
cut-list zero (x ∷ xs) d h = refl
cut-list (suc k) (x ∷ xs) d h = ap (λ (l : List _). x ∷ l) (cut-list k xs d (omega (arith, h)))
