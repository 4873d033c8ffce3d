-- The readers of a script once the state of one of them was put.
use Rattle.std.proofs.Common.{◌≡◌, ℕ, Bool, true, false, cond, List, [], ◌∷◌, Option, Some, None, refl, sym, ◌∙◌, ap}
use Rattle.std.specs.Prelude.{◌==◌}
use Rattle.std.proofs.lemmas.Bool.{cond_both, cond-true, cond-false, eq-eqb, eqb-true}
use Rattle.h5w_model.specs.Lawful.{ReaderState, reader_in, put_reader}

-- the state that was put is there
pub put_there : (r : ℕ) (x : ReaderState) (xs : List (ℕ × ReaderState)) → reader_in r (put_reader r x xs) ≡ Some x
put_there r x [] = cond-true (r == r) (Some x) None (eq-eqb r r refl)
put_there r x (y ∷ ys) =
    cond_both (y.0 == r) ((r, x) ∷ ys) (y ∷ put_reader r x ys) (λ (zs : List (ℕ × ReaderState)). reader_in r zs ≡ Some x)
    (λ t. cond-true (r == r) (Some x) (reader_in r ys) (eq-eqb r r refl))
    (λ t. cond-false (y.0 == r) (Some y.1) (reader_in r (put_reader r x ys)) t ∙ put_there r x ys)

-- the others are as before
pub put_other : (r q : ℕ) (x : ReaderState) (xs : List (ℕ × ReaderState)) → reader_in q (put_reader r x xs) ≡ cond (r == q) (Some x) (reader_in q xs)
put_other r q x [] = refl
put_other r q x (y ∷ ys) =
    cond_both (y.0 == r) ((r, x) ∷ ys) (y ∷ put_reader r x ys) (λ (zs : List (ℕ × ReaderState)). reader_in q zs ≡ cond (r == q) (Some x) (reader_in q (y ∷ ys)))
    (λ t. own q (eqb-true y.0 r t))
    (λ t. behind (put_other r q x ys) (r == q) refl (y.0 == q) refl t)
  where
    own : (q : ℕ) → y.0 ≡ r → cond (r == q) (Some x) (reader_in q ys) ≡ cond (r == q) (Some x) (cond (y.0 == q) (Some y.1) (reader_in q ys))
    own q e =
        cond_both (r == q) (Some x) (reader_in q ys) (λ (o : Option ReaderState). o ≡ cond (r == q) (Some x) (cond (y.0 == q) (Some y.1) (reader_in q ys)))
        (λ t. sym (cond-true (r == q) (Some x) (cond (y.0 == q) (Some y.1) (reader_in q ys)) t))
        (λ t. sym (cond-false (r == q) (Some x) (cond (y.0 == q) (Some y.1) (reader_in q ys)) t ∙ cond-false (y.0 == q) (Some y.1) (reader_in q ys) (ap (λ n. n == q) e ∙ t)))

    clash : (b : Bool) → b ≡ true → b ≡ false → ⊥
    clash b e f = cc

    behind : reader_in q (put_reader r x ys) ≡ cond (r == q) (Some x) (reader_in q ys) → (a : Bool) → (r == q) ≡ a → (b : Bool) → (y.0 == q) ≡ b → (y.0 == r) ≡ false
        → cond (y.0 == q) (Some y.1) (reader_in q (put_reader r x ys)) ≡ cond (r == q) (Some x) (cond (y.0 == q) (Some y.1) (reader_in q ys))
    behind rest true e true f t = absurd (clash (y.0 == r) (eq-eqb y.0 r (eqb-true y.0 q f ∙ sym (eqb-true r q e))) t)
    behind rest false e true f t =
        cond-true (y.0 == q) (Some y.1) (reader_in q (put_reader r x ys)) f
        ∙ sym (cond-false (r == q) (Some x) (cond (y.0 == q) (Some y.1) (reader_in q ys)) e ∙ cond-true (y.0 == q) (Some y.1) (reader_in q ys) f)
    behind rest a e false f t =
        cond-false (y.0 == q) (Some y.1) (reader_in q (put_reader r x ys)) f ∙ rest
        ∙ ap (λ (o : Option ReaderState). cond (r == q) (Some x) o) (sym (cond-false (y.0 == q) (Some y.1) (reader_in q ys) f))

-- putting what is there changes nothing
pub put_same : (r : ℕ) (x : ReaderState) (xs : List (ℕ × ReaderState)) → reader_in r xs ≡ Some x → put_reader r x xs ≡ xs
put_same r x [] e = absurd (cc)
put_same r x (y ∷ ys) e =
    cond_both (y.0 == r) (Some y.1) (reader_in r ys) (λ (o : Option ReaderState). o ≡ Some x → cond (y.0 == r) ((r, x) ∷ ys) (y ∷ put_reader r x ys) ≡ y ∷ ys)
    (λ t f.
    let same : y.1 ≡ x = some_is y.1 x f in
    cond-true (y.0 == r) ((r, x) ∷ ys) (y ∷ put_reader r x ys) t ∙ (λ i. (sym (eqb-true y.0 r t) i, sym same i) ∷ ys))
    (λ t f. cond-false (y.0 == r) ((r, x) ∷ ys) (y ∷ put_reader r x ys) t ∙ ap (λ (zs : List (ℕ × ReaderState)). y ∷ zs) (put_same r x ys f))
    e
  where
    some_is : (a b : ReaderState) → ◌≡◌ {A = Option ReaderState} (Some a) (Some b) → a ≡ b
    some_is a b h = cc

-- the later of two states counts
pub put_twice : (r : ℕ) (x y : ReaderState) (xs : List (ℕ × ReaderState)) → put_reader r y (put_reader r x xs) ≡ put_reader r y xs
put_twice r x y [] = cond-true (r == r) ((r, y) ∷ []) ((r, x) ∷ put_reader r y []) (eq-eqb r r refl)
put_twice r x y (z ∷ zs) =
    cond_both (z.0 == r) ((r, x) ∷ zs) (z ∷ put_reader r x zs) (λ (ws : List (ℕ × ReaderState)). put_reader r y ws ≡ cond (z.0 == r) ((r, y) ∷ zs) (z ∷ put_reader r y zs))
    (λ t. cond-true (r == r) ((r, y) ∷ zs) ((r, x) ∷ put_reader r y zs) (eq-eqb r r refl) ∙ sym (cond-true (z.0 == r) ((r, y) ∷ zs) (z ∷ put_reader r y zs) t))
    (λ t. cond-false (z.0 == r) ((r, y) ∷ put_reader r x zs) (z ∷ put_reader r y (put_reader r x zs)) t ∙ ap (λ (ws : List (ℕ × ReaderState)). z ∷ ws) (put_twice r x y zs)
    ∙ sym (cond-false (z.0 == r) ((r, y) ∷ zs) (z ∷ put_reader r y zs) t))
