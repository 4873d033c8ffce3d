use Rattle.std.proofs.Common.{◌≡◌, ◌++◌, drop}
use Rattle.h5w_chunks.specs.Grids.{dataset_of}
use Rattle.h5w_chunks.specs.Shares.{new_writes, writes_from}
use Rattle.h5w_chunks.proofs.grid.Grid.new_bytes.Given as goal

abbrev pub invariant-loop-k : goal.invariant-loop-k
invariant-loop-k l =
    l.out.items ++ writes_from (dataset_of l.self) l.cells l.from l.to l.k (drop l.k l.places) ≡ l.initial.out.items ++ new_writes (dataset_of l.self) l.cells l.from l.to l.places
