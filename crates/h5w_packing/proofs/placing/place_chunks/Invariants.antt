use Rattle.h5w_chunks.specs.Grids.{dataset_of}
use Rattle.h5w_index.specs.Held.{view_of}
use Rattle.h5w_packing.proofs.PlaceLemmas.{IsHalfway}
use Rattle.h5w_packing.proofs.placing.place_chunks.Given as goal

abbrev pub invariant-loop-number : goal.invariant-loop-number
invariant-loop-number l = IsHalfway (dataset_of l.grid) l.table l.initial.places (view_of l.initial.index) l.number l.places (view_of l.index) l.chunks.items
