-- A look that was given takes one of the most looks of a program.
use Rattle.std.proofs.Common.{ℕ, Option, Some, None, ◌≡◌, zero, suc, ◌≤◌, subst, inl, inr, arith, ◌<◌, List, [], ◌∷◌, length, ap}
use Rattle.std.proofs.lemmas.Bool.{cases_lt}
use Rattle.std.proofs.Math.Nat.{le_trans, le-max_left, le-max_right}
use Rattle.std.proofs.lemmas.List.Elements.{All-head, All-tail}
use Rattle.h5w_model.specs.Numbers.{AreBytes}
use Rattle.h5w_model.specs.Programs.{Prog, ret, whole, counted, stored, next_look, fed}
use Rattle.h5w_laws.specs.MostLooks.{greatest_to, greatest_at, most_looks}

abbrev pub length_in : Option (ℕ × ℕ) → ℕ
length_in None = 0
length_in (Some look) = look.1

pub greatest_to_most : (n : ℕ) (f : ℕ → ℕ) (k : ℕ) → k ≤ n → f k ≤ greatest_to n f
greatest_to_most zero f k h = let e : 0 ≡ k = omega arith in subst (λ x. f x ≤ f 0) e (omega arith)
greatest_to_most (suc n) f k h =
    elim (cases_lt n k) [
      | inl past ↦ (let e : suc n ≡ k = omega arith in subst (λ x. f x ≤ greatest_to (suc n) f) e (le-max_left (f (suc n)) (greatest_to n f)))
      | inr low ↦ le_trans (greatest_to_most n f k low) (le-max_right (f (suc n)) (greatest_to n f))
    ]

pub greatest_at_most : (n : ℕ) (f : List ℕ → ℕ) (bytes : List ℕ) → AreBytes bytes → length bytes ≤ n → f bytes ≤ greatest_at n f
greatest_at_most zero f [] are h = omega arith
greatest_at_most zero f (b ∷ bs) are h = absurd (omega arith)
greatest_at_most (suc n) f [] are h = le-max_left (f []) (greatest_to 255 (λ b. greatest_at n (λ bs. f (b ∷ bs))))
greatest_at_most (suc n) f (b ∷ bs) are h =
    let small : b < 256 = All-head (λ (x : ℕ). x < 256) b bs are in
    let rest : AreBytes bs = All-tail (λ (x : ℕ). x < 256) b bs are in
    let at : List ℕ → ℕ = λ xs. f (b ∷ xs) in
    le_trans (greatest_at_most n at bs rest (omega arith))
    (le_trans (greatest_to_most 255 (λ c. greatest_at n (λ xs. f (c ∷ xs))) b (omega arith)) (le-max_right (f []) (greatest_to 255 (λ c. greatest_at n (λ xs. f (c ∷ xs))))))

-- a look that was given takes one of them
pub most_fed : {A : Type 0} (p : Prog A) (at len : ℕ) (bytes : List ℕ) → next_look p ≡ Some (at, len) → AreBytes bytes → length bytes ≤ len → most_looks (fed bytes p) < most_looks p
most_fed (ret a) at len bytes e are short = cc
most_fed (whole place n next) at len bytes e are short =
    let m : n ≡ len = ap length_in e in
    let h : most_looks (next bytes) ≤ greatest_at n (λ b. most_looks (next b)) = greatest_at_most n (λ b. most_looks (next b)) bytes are (omega arith) in
    omega (arith, h)
most_fed (counted place counts next) at len bytes e are short = cc
most_fed (stored kind place n next) at len bytes e are short = cc
