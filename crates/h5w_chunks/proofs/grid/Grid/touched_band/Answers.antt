use Rattle.std.proofs.Common.{arith}
use Rattle.h5w_chunks.specs.Grids.{dataset_of}
use Rattle.h5w_chunks.proofs.Geometry.{is_cut, share_numbers}
use Rattle.h5w_chunks.proofs.grid.Grid.touched_band.Goals as goal

pub overflow_add-result : goal.overflow_add-result
overflow_add-result c =
    let n = share_numbers (dataset_of c.args.self.now) c.args.from c.args.to c.args.k c.across.result (is_cut c.args.self.now c.requires.grid) c.requires.known c.across.ensures in
    omega (arith, n.low, n.band, c.ranges.to.fits)
