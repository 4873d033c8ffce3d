-- The values of cells.
use Rattle.std.specs.Prelude.{ℕ, zero, suc, List, [], ◌∷◌, take, drop, ℤ}
use Rattle.h5w_model.specs.Messages.{IntTypeFields}
use Rattle.h5w_model.specs.Integers.{value_at}

-- the values of n cells that stand one behind the other
unfoldable pub cell_values : IntTypeFields → ℕ → List ℕ → List ℤ
cell_values t zero b = []
cell_values t (suc n) b = value_at (take t.size b) t ∷ cell_values t n (drop t.size b)
