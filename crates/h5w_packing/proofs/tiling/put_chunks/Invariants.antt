use Rattle.std.proofs.Common.{◌≡◌, ◌++◌}
use Rattle.std.specs.Prelude.{drop}
use Rattle.h5w_packing.specs.Plans.{chunk_tiles}
use Rattle.h5w_packing.proofs.tiling.put_chunks.Given as goal

abbrev pub invariant-loop-chunk : goal.invariant-loop-chunk
invariant-loop-chunk l = l.ranges ++ chunk_tiles (drop l.chunk-index l.chunks) ≡ l.initial.ranges ++ chunk_tiles l.chunks
