-- How many looks a program takes at most, whatever bytes they give.
use Rattle.std.specs.Prelude.{ℕ, zero, suc, max, List, [], ◌∷◌}
use Rattle.h5w_model.specs.Programs.{Prog, ret, whole, counted, stored}

-- the greatest of f 0 to f n
abbrev pub greatest_to : ℕ → (ℕ → ℕ) → ℕ
greatest_to zero f = f 0
greatest_to (suc n) f = max (f (suc n)) (greatest_to n f)

-- the greatest at a list of at most n bytes
abbrev pub greatest_at : ℕ → (List ℕ → ℕ) → ℕ
greatest_at zero f = f []
greatest_at (suc n) f = max (f []) (greatest_to 255 (λ b. greatest_at n (λ bs. f (b ∷ bs))))

-- the most looks of a program of plain looks, whatever bytes they give
abbrev pub most_looks : {A : Type 0} → Prog A → ℕ
most_looks (ret a) = 0
most_looks (whole at len next) = suc (greatest_at len (λ b. most_looks (next b)))
most_looks (counted at counts next) = 0
most_looks (stored kind at len next) = 0
