-- The addresses in the slots of a block, by its bytes.
use Rattle.std.proofs.Common.{◌≡◌, ℕ, zero, suc, ◌+◌, ◌-◌, ◌*◌, ◌<◌, ◌≤◌, List, ◌∷◌, take, drop, get_or, refl, sym, ◌∙◌, ap, arith}
use Rattle.h5w_model.specs.Numbers.{field}
use Rattle.h5w_model.specs.Arrays.{numbers_in}

-- ---- Numbers

pub number_at : (b : List ℕ) (n p i d : ℕ) → i < n → get_or (numbers_in b n p) i d ≡ field b (p + 8 * i) 8
unfolding numbers_in
number_at b zero p i d h = absurd (omega arith)
number_at b (suc n) p zero d h = let e : p ≡ p + 8 * 0 = omega arith in ap (λ k. field b k 8) e
number_at b (suc n) p (suc i) d h = let e : p + 8 + 8 * i ≡ p + 8 * suc i = omega arith in number_at b n (p + 8) i d (omega arith) ∙ ap (λ k. field b k 8) e

pub number_behind : (b : List ℕ) (n p i d : ℕ) → n ≤ i → get_or (numbers_in b n p) i d ≡ d
unfolding numbers_in
number_behind b zero p i d h = refl
number_behind b (suc n) p zero d h = absurd (omega arith)
number_behind b (suc n) p (suc i) d h = number_behind b n (p + 8) i d (omega arith)

numbers_drop : (b : List ℕ) (n p f : ℕ) → f ≤ n → drop f (numbers_in b n p) ≡ numbers_in b (n - f) (p + 8 * f)
unfolding numbers_in
numbers_drop b n p zero h =
    let all : n ≡ n - 0 = omega arith in
    let e : p ≡ p + 8 * 0 = omega arith in
    ap (λ m. numbers_in b m p) all ∙ ap (λ k. numbers_in b (n - 0) k) e
numbers_drop b zero p (suc f) h = absurd (omega arith)
numbers_drop b (suc n) p (suc f) h =
    let less : n - f ≡ suc n - suc f = omega arith in
    let e : p + 8 + 8 * f ≡ p + 8 * suc f = omega arith in
    numbers_drop b n (p + 8) f (omega arith) ∙ ap (λ m. numbers_in b m (p + 8 + 8 * f)) less ∙ ap (λ k. numbers_in b (suc n - suc f) k) e

numbers_take : (b : List ℕ) (n p c : ℕ) → c ≤ n → take c (numbers_in b n p) ≡ numbers_in b c p
unfolding numbers_in
numbers_take b n p zero h = refl
numbers_take b zero p (suc c) h = absurd (omega arith)
numbers_take b (suc n) p (suc c) h = ap (λ (xs : List ℕ). field b p 8 ∷ xs) (numbers_take b n (p + 8) c (omega arith))

-- some of them, from one on
pub numbers_from : (b : List ℕ) (n p f c : ℕ) → f + c ≤ n → numbers_in b c (p + 8 * f) ≡ take c (drop f (numbers_in b n p))
numbers_from b n p f c h = sym (ap (take c) (numbers_drop b n p f (omega arith)) ∙ numbers_take b (n - f) (p + 8 * f) c (omega arith))
