use Rattle.std.proofs.Common.{◌≡◌, ◌+◌, drop}
use Rattle.h5w_chunks.specs.Grids.{dataset_of}
use Rattle.h5w_pieces.specs.RowPieces.{most_pieces}
use Rattle.h5w_pieces.proofs.rows.most_pieces.Given as goal

abbrev pub invariant-loop-k : goal.invariant-loop-k
invariant-loop-k l = l.count + most_pieces (dataset_of l.grid) l.from l.to l.k (drop l.k l.places) ≡ most_pieces (dataset_of l.grid) l.from l.to 0 l.places
