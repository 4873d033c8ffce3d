use Rattle.std.proofs.Common.{◌≡◌, ◌-◌, ◌++◌}
use Rattle.h5w_writer_open.specs.OpenRanges.{chunks_from}
use Rattle.h5w_writer_open.proofs.ranges.array_chunks.Given as goal

abbrev pub invariant-loop-i : goal.invariant-loop-i
invariant-loop-i l = l.chunks.items ++ chunks_from l.array l.len l.i (131060 - l.i) ≡ chunks_from l.array l.len l.from (131060 - l.from)
