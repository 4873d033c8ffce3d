use Rattle.std.proofs.Common.{◌≡◌, ◌+◌}
use Rattle.std.specs.Prelude.{drop}
use Rattle.h5w_packing.specs.Jobs.{pieces_in}
use Rattle.h5w_packing.proofs.packing.pieces_of.Given as goal

abbrev pub invariant-loop-chunk : goal.invariant-loop-chunk
invariant-loop-chunk l = l.pieces + pieces_in (drop l.chunk-index l.chunks) ≡ pieces_in l.chunks + l.writes
