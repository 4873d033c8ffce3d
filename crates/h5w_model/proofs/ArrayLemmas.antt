-- Numbers of 8 bytes that stand one after another, as the blocks of an extensible array have them.
use Rattle.std.proofs.Common.{◌≡◌, ℕ, zero, suc, ◌+◌, ◌*◌, ◌^◌, ◌<◌, List, [], ◌∷◌, ◌++◌, length, refl, sym, ap, ◌∙◌, arith, append_assoc, length-append}
use Rattle.std.proofs.lemmas.List.{append-nil}
use Rattle.std.proofs.lemmas.List.Elements.{All-head, All-tail}
use Rattle.std.specs.List.{All}
use Rattle.h5w_model.specs.Numbers.{le, field}
use Rattle.h5w_model.specs.Arrays.{numbers_in, number_bytes}
use Rattle.h5w_model.proofs.NumberLemmas.{length-le, field-at}

pub numbers_in-more : (b : List ℕ) (n place : ℕ) → numbers_in b (n + 1) place ≡ numbers_in b n place ++ field b (place + 8 * n) 8 ∷ []
unfolding numbers_in
numbers_in-more b zero place = let e : place ≡ place + 8 * 0 = omega arith in ap (λ p. field b p 8 ∷ []) e
numbers_in-more b (suc n) place =
    let e : place + 8 + 8 * n ≡ place + 8 * suc n = omega arith in
    let m : suc n + 1 ≡ suc (n + 1) = omega arith in
    ap (λ k. numbers_in b k place) m ∙ ap (λ l. field b place 8 ∷ l) (numbers_in-more b n (place + 8) ∙ ap (λ p. numbers_in b n (place + 8) ++ field b p 8 ∷ []) e)

pub length-numbers_in : (b : List ℕ) (n place : ℕ) → length (numbers_in b n place) ≡ n
unfolding numbers_in
length-numbers_in b zero place = refl
length-numbers_in b (suc n) place = ap suc (length-numbers_in b n (place + 8))

pub number_bytes-nil : number_bytes [] ≡ []
unfolding number_bytes
number_bytes-nil = refl

pub number_bytes-cons : (x : ℕ) (xs : List ℕ) → number_bytes (x ∷ xs) ≡ le 8 x ++ number_bytes xs
unfolding number_bytes
number_bytes-cons x xs = refl

pub number_bytes-push : (xs : List ℕ) (x : ℕ) → number_bytes (xs ++ x ∷ []) ≡ number_bytes xs ++ le 8 x
number_bytes-push [] x = number_bytes-cons x [] ∙ ap (λ l. le 8 x ++ l) number_bytes-nil ∙ append-nil (le 8 x) ∙ ap (λ l. l ++ le 8 x) (sym number_bytes-nil)
number_bytes-push (y ∷ xs) x =
    number_bytes-cons y (xs ++ x ∷ []) ∙ ap (λ l. le 8 y ++ l) (number_bytes-push xs x) ∙ sym (append_assoc (le 8 y) (number_bytes xs) (le 8 x)) ∙ ap (λ l. l ++ le 8 x) (sym (number_bytes-cons y xs))

pub length-number_bytes : (xs : List ℕ) → length (number_bytes xs) ≡ 8 * length xs
length-number_bytes [] = ap length number_bytes-nil
length-number_bytes (x ∷ xs) =
    let e = length-number_bytes xs in
    ap length (number_bytes-cons x xs) ∙ length-append (le 8 x) (number_bytes xs) ∙ (let k : length (le 8 x) + length (number_bytes xs) ≡ 8 * suc (length xs) = omega (arith, length-le 8 x, e) in k)

-- what was written reads back, between any other bytes
pub numbers_in-number_bytes : (front xs back : List ℕ) (n place : ℕ) → length xs ≡ n → length front ≡ place → All (λ x. x < 2 ^ 64) xs → numbers_in ((front ++ number_bytes xs) ++ back) n place ≡ xs
unfolding numbers_in
numbers_in-number_bytes front [] back zero place e p f = refl
numbers_in-number_bytes front [] back (suc n) place e p f = absurd (omega arith)
numbers_in-number_bytes front (x ∷ xs) back zero place e p f = absurd (omega arith)
numbers_in-number_bytes front (x ∷ xs) back (suc n) place e p f =
    let shape : (front ++ number_bytes (x ∷ xs)) ++ back ≡ (front ++ le 8 x) ++ (number_bytes xs ++ back) =
    ap (λ l. (front ++ l) ++ back) (number_bytes-cons x xs) ∙ ap (λ l. l ++ back) (sym (append_assoc front (le 8 x) (number_bytes xs))) ∙ append_assoc (front ++ le 8 x) (number_bytes xs) back in
    let shape2 : (front ++ number_bytes (x ∷ xs)) ++ back ≡ ((front ++ le 8 x) ++ number_bytes xs) ++ back = shape ∙ sym (append_assoc (front ++ le 8 x) (number_bytes xs) back) in
    let here : field ((front ++ number_bytes (x ∷ xs)) ++ back) place 8 ≡ x = ap (λ l. field l place 8) shape ∙ field-at front (number_bytes xs ++ back) place 8 x p (All-head (λ (v : ℕ). v < 2 ^ 64) x xs f) in
    let rest : numbers_in ((front ++ number_bytes (x ∷ xs)) ++ back) n (place + 8) ≡ xs =
    ap (λ l. numbers_in l n (place + 8)) shape2
    ∙ numbers_in-number_bytes (front ++ le 8 x) xs back n (place + 8) (omega arith) (omega (arith, length-append front (le 8 x), length-le 8 x)) (All-tail (λ (v : ℕ). v < 2 ^ 64) x xs f) in
    λ i. here i ∷ rest i
