-- Rows of three columns in chunks of two rows and two columns, two bytes a cell.
use Rattle.std.specs.Prelude.{◌≡◌, ℕ, true, false, List, [], ◌∷◌, Some, refl}
use Rattle.std.proofs.Common.{arith}
use Rattle.h5w_model.specs.Images.{first_pieces, pieces}
use Rattle.h5w_model.specs.declared.cell.IndexKind.TheVariants.{Tree}
use Rattle.h5w_model.specs.declared.piece.Write.{Write}
use Rattle.h5w_chunks.specs.Grids.{IsGrid, copies, dataset_of}
use Rattle.h5w_chunks.specs.Shares.{new_writes, padded_rows, row_blocks, writes_from, writes_of}
use Rattle.h5w_chunks.specs.declared.grid.Grid.{Grid}

abbrev wide : Grid
wide = record {
  shape = record { rank = 2; rows = 1; cols = 3; growing = true };
  int_type = record { size = 2; big = false; signed = true };
  fill = record { value = Some (record { bytes = 9 ∷ 0 ∷ 0 ∷ 0 ∷ 0 ∷ 0 ∷ 0 ∷ 0 ∷ []; size = 2 }) };
  layout = record { chunk = (2, 2); index = Tree; address = 0; at = 0 };
}

-- such a grid is there
pub wide_is_grid : IsGrid wide
wide_is_grid = record {
  shaped = refl;
  typed = refl;
  chunked = record { rows = omega arith; cols = omega arith; line = λ e. cc; small = omega arith; index = refl };
  filled = (refl, refl);
}

abbrev write : ℕ → List ℕ → Write
write place bytes = record { at = place; piece = bytes }

-- rows 1 and 2: row 1 goes into the two chunks that hold row 0, row 2 into two new ones
pub wide_writes : new_writes (dataset_of wide) (1 ∷ 0 ∷ 2 ∷ 0 ∷ 3 ∷ 0 ∷ 4 ∷ 0 ∷ 5 ∷ 0 ∷ 6 ∷ 0 ∷ []) 1 3
    (record { address = 100; stored = true } ∷ record { address = 108; stored = true } ∷ record { address = 116; stored = false } ∷ record { address = 124; stored = false } ∷ [])
    ≡ write 104 (1 ∷ 0 ∷ 2 ∷ 0 ∷ []) ∷ write 112 (3 ∷ 0 ∷ []) ∷ write 116 (4 ∷ 0 ∷ 5 ∷ 0 ∷ 9 ∷ 0 ∷ 9 ∷ 0 ∷ []) ∷ write 124 (6 ∷ 0 ∷ 9 ∷ 0 ∷ 9 ∷ 0 ∷ 9 ∷ 0 ∷ []) ∷ []
unfolding writes_from writes_of pieces first_pieces padded_rows row_blocks copies
wide_writes = refl
