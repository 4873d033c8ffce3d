use Rattle.std.proofs.Common.{arith, ◌%◌}
use Rattle.h5w_chunks.proofs.Geometry.{cell_fits}
use Rattle.h5w_chunks.proofs.grid.Grid.locate.Goals as goal

pub overflow_mul-result-2 : goal.overflow_mul-result-2
overflow_mul-result-2 c =
    let chunk = c.args.self.now.layout.chunk in
    let fits = cell_fits (c.args.row % chunk.0) (c.args.column % chunk.1) chunk.0 chunk.1 c.args.self.now.int_type.size (omega (arith, c.requires.chunked.rows)) (omega (arith, c.requires.chunked.cols)) in
    rw c.size.ensures (omega (arith, fits, c.requires.chunked.small))

pub returns-clause-inside : goal.returns-clause-inside
returns-clause-inside c =
    let chunk = c.args.self.now.layout.chunk in
    let fits = cell_fits (c.args.row % chunk.0) (c.args.column % chunk.1) chunk.0 chunk.1 c.args.self.now.int_type.size (omega (arith, c.requires.chunked.rows)) (omega (arith, c.requires.chunked.cols)) in
    rw c.size.ensures fits
