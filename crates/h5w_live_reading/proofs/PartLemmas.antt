-- The lines of all readers of a run, one reader behind another.
use Rattle.std.proofs.Common.{◌≡◌, ◌⊎◌, ℕ, zero, suc, ◌+◌, ◌-◌, ◌*◌, ◌<◌, ◌≤◌, List, [], ◌∷◌, ◌++◌, length, take, sym, ap, ◌∙◌, subst, arith, inl, inr}
use Rattle.std.specs.Prelude.{drop}
use Rattle.std.proofs.lemmas.Bool.{cases_lt}
use Rattle.std.proofs.lemmas.List.{drop-append-le, drop_at, length-drop, take-append-le, take_all}
use Rattle.h5w_model.specs.declared.report.PollLine.{PollLine}

-- what comes behind a front and some more
past : (front ys : List PollLine) (n k : ℕ) → n ≡ length front + k → drop n (front ++ ys) ≡ drop k ys
past [] ys n k e = ap (λ m. drop m ys) (let same : n ≡ k = omega (arith, e) in same)
past (x ∷ front) ys zero k e = absurd (omega (arith, e))
past (x ∷ front) ys (suc n) k e = past front ys n k (omega (arith, e))

product_more : (j k c : ℕ) → j < k → j * c + c ≤ k * c
product_more j k c less = grind arith

-- what is true of the lines of each reader is so with those of one more
module _ (P : ℕ → List PollLine → Type 0) (c : ℕ) where
  pub parts_more : (k : ℕ) (polls lines : List PollLine) → length polls ≡ k * c → length lines ≡ c → ((j : ℕ) → j < k → P j (take c (drop (j * c) polls))) → P k lines
      → (j : ℕ) → j < k + 1 → P j (take c (drop (j * c) (polls ++ lines)))
  parts_more k polls lines all one before here j less = go (cases_lt j k) where
    go : (j < k) ⊎ (k ≤ j) → P j (take c (drop (j * c) (polls ++ lines)))
    go (inl x) =
        let within : j * c + c ≤ k * c = product_more j k c x in
        let dropped : drop (j * c) (polls ++ lines) ≡ drop (j * c) polls ++ lines = drop-append-le (j * c) polls lines (omega (arith, within, all)) in
        let l = length-drop (j * c) polls in
        let taken : take c (drop (j * c) polls ++ lines) ≡ take c (drop (j * c) polls) = take-append-le c (drop (j * c) polls) lines (omega (arith, l, within, all)) in
        subst (λ (ls : List PollLine). P j ls) (sym (ap (take c) dropped ∙ taken)) (before j x)
    go (inr x) =
        let same : j ≡ k = omega (arith, x, less) in
        subst (λ i. P i (take c (drop (i * c) (polls ++ lines)))) (sym same)
        (subst (λ (ls : List PollLine). P k ls) (sym (ap (take c) (drop_at polls lines (k * c) all) ∙ take_all c lines (omega (arith, one)))) here)

  -- what is true of the lines of each of some readers, and of others behind them, is so with all lines
  pub parts_both : (n m : ℕ) (front lines : List PollLine) → length front ≡ n * c → ((j : ℕ) → j < n → P j (take c (drop (j * c) front))) → ((j : ℕ) → j < m → P (n + j) (take c (drop (j * c) lines)))
      → (j : ℕ) → j < n + m → P j (take c (drop (j * c) (front ++ lines)))
  parts_both n m front lines all here there j less = go (cases_lt j n) where
    go : (j < n) ⊎ (n ≤ j) → P j (take c (drop (j * c) (front ++ lines)))
    go (inl x) =
        let within : j * c + c ≤ n * c = product_more j n c x in
        let dropped : drop (j * c) (front ++ lines) ≡ drop (j * c) front ++ lines = drop-append-le (j * c) front lines (omega (arith, within, all)) in
        let l = length-drop (j * c) front in
        let taken : take c (drop (j * c) front ++ lines) ≡ take c (drop (j * c) front) = take-append-le c (drop (j * c) front) lines (omega (arith, l, within, all)) in
        subst (λ (ls : List PollLine). P j ls) (sym (ap (take c) dropped ∙ taken)) (here j x)
    go (inr x) =
        let i : ℕ = j - n in
        let split : n + i ≡ j = omega (arith, x) in
        let place : (n + i) * c ≡ n * c + i * c = grind arith in
        let at : j * c ≡ length front + i * c = ap (λ k. k * c) (sym split) ∙ (place ∙ ap (λ k. k + i * c) (sym all)) in
        subst (λ k. P k (take c (drop (j * c) (front ++ lines)))) split
        (subst (λ (ls : List PollLine). P (n + i) (take c ls)) (sym (past front lines (j * c) (i * c) at)) (there i (omega (arith, split, less))))
