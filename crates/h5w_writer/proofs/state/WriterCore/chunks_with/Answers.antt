use Rattle.std.proofs.Common.{arith, ◌≡◌, ◌*◌}
use Rattle.h5w_model.proofs.IntegerLemmas.{int_size_bounds}
use Rattle.h5w_writer.specs.Sessions.{chunks_with}
use Rattle.h5w_writer.proofs.StateLemmas.{chunks_are, counts_of}
use Rattle.h5w_writer.proofs.state.WriterCore.chunks_with.Goals as goal

pub overflow_mul-result : goal.overflow_mul-result
overflow_mul-result c =
    let s = c.args.self.now in
    let layout = c.self.invariant.1.chunked in
    let n = counts_of _ s c.self.view_is c.self.invariant.0 layout (int_size_bounds c.self.inside.grid.int_type.size c.self.invariant.1.typed).0 in
    let is : c.div_ceil-bands.result * c.div_ceil-across.result ≡ chunks_with s c.args.more =
    chunks_are _ s c.self.view_is c.rows.result c.div_ceil-bands.result c.div_ceil-across.result c.args.more c.rows.ensures.value c.div_ceil-bands.ensures c.div_ceil-across.ensures layout.rows layout.cols in
    omega (arith, is, n.chunks c.args.more c.requires)

pub returns : goal.returns
returns c =
    let layout = c.self.invariant.1.chunked in
    chunks_are _ c.args.self.now c.self.view_is c.rows.result c.div_ceil-bands.result c.div_ceil-across.result c.args.more c.rows.ensures.value c.div_ceil-bands.ensures c.div_ceil-across.ensures layout.rows layout.cols
