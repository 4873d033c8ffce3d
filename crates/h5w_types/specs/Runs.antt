-- The cells of a run of values.
use Rattle.std.specs.Prelude.{ℕ, List, [], flat_map, unwrap_or, ℤ}
use Rattle.h5w_model.specs.Messages.{IntTypeFields}
use Rattle.h5w_model.specs.Integers.{cell_bytes_of}

-- the cells of some values, one behind the other
unfoldable pub run_bytes : IntTypeFields → List ℤ → List ℕ
run_bytes t values = flat_map (λ (v : ℤ). unwrap_or (cell_bytes_of v t) []) values
