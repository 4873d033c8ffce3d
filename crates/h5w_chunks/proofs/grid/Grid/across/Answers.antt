use Rattle.std.proofs.Common.{◌∙◌}
use Rattle.h5w_chunks.proofs.Geometry.{ceil_is_up}
use Rattle.h5w_chunks.proofs.grid.Grid.across.Goals as goal

pub returns : goal.returns
returns c = c.div_ceil.ensures ∙ ceil_is_up c.args.self.now.shape.cols c.args.self.now.layout.chunk.1 c.requires.chunked.cols
