use Rattle.std.proofs.Common.{Err, subst}
use Rattle.h5w_dataset.specs.Described.{described_of}
use Rattle.h5w_writer_open.specs.declared.index.NoIndex.{NoIndex}
use Rattle.h5w_writer_open.specs.OpenRanges.{IsNear}
use Rattle.h5w_writer_open.proofs.ranges.started_index.Goals as goal

pub new_array-requires-clause-header_ends : goal.new_array-requires-clause-header_ends
new_array-requires-clause-header_ends c = subst (λ (w : NoIndex). IsNear (described_of c.args.d.now) (Err w)) c.in-Empty.is c.requires.near
