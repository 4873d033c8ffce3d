-- A list of cells, cell by cell.
use Rattle.std.proofs.Common.{◌≡◌, ℕ, zero, suc, ◌<◌, List, [], ◌∷◌, map, get_or, Option, Some, None, ℤ, refl, sym, ap, ◌∙◌, arith}
use Rattle.std.specs.Prelude.{slice_get}
use Rattle.std.specs.List.{range_with_len}
use Rattle.std.proofs.lemmas.List.FromFn.{get_or-map-range_with_len}

some_at : (values : List ℤ) (k : ℕ) → get_or (map Some values) k None ≡ slice_get values k
some_at [] k = refl
some_at (v ∷ vs) zero = refl
some_at (v ∷ vs) (suc k) = some_at vs k

-- where all cells have these values, each has its own
pub each_cell : (f : ℕ → Option ℤ) (n : ℕ) (values : List ℤ) → map f (range_with_len 0 n) ≡ map Some values → (k : ℕ) → k < n → f k ≡ slice_get values k
each_cell f n values e k h =
    sym (get_or-map-range_with_len f 0 n k k None h (omega arith)) ∙ ap (λ (xs : List (Option ℤ)). get_or xs k None) e ∙ some_at values k
