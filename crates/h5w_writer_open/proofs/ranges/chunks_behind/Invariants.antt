use Rattle.std.proofs.Common.{◌≡◌, take}
use Rattle.h5w_writer_open.specs.OpenRanges.{chunks_behind}
use Rattle.h5w_writer_open.proofs.ranges.chunks_behind.Given as goal

abbrev pub invariant-loop-r : goal.invariant-loop-r
invariant-loop-r l = l.chunks.items ≡ chunks_behind l.len l.line (take l.r-index l.records)
