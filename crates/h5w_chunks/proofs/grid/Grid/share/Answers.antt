use Rattle.std.proofs.Common.{arith}
use Rattle.h5w_chunks.specs.Grids.{dataset_of}
use Rattle.h5w_chunks.proofs.Geometry.{is_cut, share_numbers}
use Rattle.h5w_chunks.proofs.grid.Grid.share.Goals as goal

pub overflow_add-from : goal.overflow_add-from
overflow_add-from c =
    let n = share_numbers (dataset_of c.args.self.now) c.args.from c.args.to c.args.k c.across-across.result (is_cut c.args.self.now c.requires.grid) c.requires.known c.across-across.ensures in
    omega (arith, n.low, n.band, c.ranges.to.fits)

pub overflow_mul-from : goal.overflow_mul-from
overflow_mul-from c =
    let n = share_numbers (dataset_of c.args.self.now) c.args.from c.args.to c.args.k c.across-across.result (is_cut c.args.self.now c.requires.grid) c.requires.known c.across-across.ensures in
    omega (arith, n.band, c.ranges.to.fits)

pub overflow_mul-column : goal.overflow_mul-column
overflow_mul-column c =
    let n = share_numbers (dataset_of c.args.self.now) c.args.from c.args.to c.args.k c.across-across.result (is_cut c.args.self.now c.requires.grid) c.requires.known c.across-across.ensures in
    omega (arith, n.column)

pub overflow_sub-to : goal.overflow_sub-to
overflow_sub-to c =
    let n = share_numbers (dataset_of c.args.self.now) c.args.from c.args.to c.args.k c.across-across.result (is_cut c.args.self.now c.requires.grid) c.requires.known c.across-across.ensures in
    omega (arith, n.band, n.any, c.max-row.ensures)

pub overflow_sub-self : goal.overflow_sub-self
overflow_sub-self c =
    let n = share_numbers (dataset_of c.args.self.now) c.args.from c.args.to c.args.k c.across-across.result (is_cut c.args.self.now c.requires.grid) c.requires.known c.across-across.ensures in
    omega (arith, n.column)

pub overflow_mul-result : goal.overflow_mul-result
overflow_mul-result c =
    let n = share_numbers (dataset_of c.args.self.now) c.args.from c.args.to c.args.k c.across-across.result (is_cut c.args.self.now c.requires.grid) c.requires.known c.across-across.ensures in
    rw c.max-row.ensures (omega (arith, n.times, n.whole, c.requires.room))

pub overflow_add-result : goal.overflow_add-result
overflow_add-result c =
    let n = share_numbers (dataset_of c.args.self.now) c.args.from c.args.to c.args.k c.across-across.result (is_cut c.args.self.now c.requires.grid) c.requires.known c.across-across.ensures in
    rw c.max-row.ensures (omega (arith, n.times, n.column, n.whole, c.requires.room))

pub overflow_mul-result-2 : goal.overflow_mul-result-2
overflow_mul-result-2 c =
    let n = share_numbers (dataset_of c.args.self.now) c.args.from c.args.to c.args.k c.across-across.result (is_cut c.args.self.now c.requires.grid) c.requires.known c.across-across.ensures in
    rw (c.max-row.ensures, c.size.ensures) (omega (arith, n.cells, c.requires.room))
