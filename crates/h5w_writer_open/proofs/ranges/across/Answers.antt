use Rattle.std.proofs.Common.{◌∙◌}
use Rattle.h5w_chunks.proofs.Geometry.{ceil_is_up}
use Rattle.h5w_writer_open.proofs.ranges.across.Goals as goal

pub returns : goal.returns
returns c =
    let d = c.args.d.now in
    c.div_ceil.ensures ∙ ceil_is_up d.shape.cols d.layout.chunk.1 d.wide
