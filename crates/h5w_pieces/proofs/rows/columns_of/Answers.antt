use Rattle.std.proofs.Common.{arith}
use Rattle.h5w_chunks.specs.Grids.{dataset_of}
use Rattle.h5w_chunks.proofs.Geometry.{is_cut}
use Rattle.h5w_pieces.proofs.RowPieces.{column_fits}
use Rattle.h5w_pieces.proofs.rows.columns_of.Goals as goal

pub overflow_mul-column : goal.overflow_mul-column
overflow_mul-column c =
    let a = c.args in
    let d = dataset_of a.grid.now in
    omega (arith, column_fits d a.from a.to a.k c.across-across.result (is_cut a.grid.now c.requires.grid) c.requires.known c.across-across.ensures)

pub overflow_sub-columns : goal.overflow_sub-columns
overflow_sub-columns c =
    let a = c.args in
    let d = dataset_of a.grid.now in
    omega (arith, column_fits d a.from a.to a.k c.across-across.result (is_cut a.grid.now c.requires.grid) c.requires.known c.across-across.ensures)
