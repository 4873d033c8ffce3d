use Rattle.std.proofs.Common.{◌≡◌, ◌++◌, drop}
use Rattle.h5w_chunks.specs.Grids.{cells_of, dataset_of}
use Rattle.h5w_chunks.proofs.grid.Grid.put_cells.Given as goal

abbrev pub invariant-loop-v : goal.invariant-loop-v
invariant-loop-v l = l.out.items ++ cells_of (dataset_of l.self) (drop l.v-index l.values) ≡ l.initial.out.items ++ cells_of (dataset_of l.self) l.values
