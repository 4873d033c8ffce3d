-- The cells of values and of more values behind them.
use Rattle.std.proofs.Common.{◌≡◌, ℕ, ◌+◌, List, [], ◌∷◌, ◌++◌, ℤ, Option, None, refl, sym, ap, ◌∙◌, append_assoc}
use Rattle.std.specs.Option.{unwrap_or}
use Rattle.h5w_model.specs.Datasets.{Described}
use Rattle.h5w_model.specs.Integers.{cell_bytes_of}
use Rattle.h5w_model.specs.Lawful.{first_outside}
use Rattle.h5w_model.specs.Messages.{IntTypeFields}
use Rattle.h5w_types.specs.Runs.{run_bytes}
use Rattle.h5w_types.proofs.RunLemmas.{by_cell, first_has_cell, first_outside-cons}
use Rattle.h5w_chunks.specs.Grids.{cells_of}

pub cells_of-append : (d : Described) (vs ws : List ℤ) → cells_of d (vs ++ ws) ≡ cells_of d vs ++ cells_of d ws
unfolding run_bytes
cells_of-append d [] ws = refl
cells_of-append d (v ∷ vs) ws =
    let cell : List ℕ = unwrap_or (cell_bytes_of v d.int_type) [] in
    ap (λ (b : List ℕ). cell ++ b) (cells_of-append d vs ws) ∙ sym (append_assoc cell (cells_of d vs) (cells_of d ws))

-- of values that all fit the first do, and the others
pub first_fit : (t : IntTypeFields) (i : ℕ) (vs ws : List ℤ) → first_outside t i (vs ++ ws) ≡ None → first_outside t i vs ≡ None
first_fit t i [] ws none = refl
first_fit t i (v ∷ vs) ws none =
    let cell = first_has_cell t i v (vs ++ ws) none in
    first_outside-cons t i v vs ∙ ap (λ (o : Option (List ℕ)). by_cell t i v vs o) cell.is ∙ first_fit t (i + 1) vs ws cell.rest

pub others_fit : (t : IntTypeFields) (i : ℕ) (vs ws : List ℤ) → first_outside t i (vs ++ ws) ≡ None → (j : ℕ) × (first_outside t j ws ≡ None)
others_fit t i [] ws none = (i, none)
others_fit t i (v ∷ vs) ws none = others_fit t (i + 1) vs ws (first_has_cell t i v (vs ++ ws) none).rest
