use Rattle.std.proofs.Common.{◌≡◌, ◌+◌, ◌-◌, ◌*◌, ◌++◌}
use Rattle.h5w_chunks.specs.Grids.{dataset_of, row_len}
use Rattle.h5w_chunks.specs.Shares.{own_row, row_blocks, writes_of}
use Rattle.h5w_chunks.proofs.grid.Grid.put_each_row.Given as goal

abbrev pub invariant-loop-t : goal.invariant-loop-t
invariant-loop-t l =
    let d = dataset_of l.self in
    record {
      place : l.place ≡ l.at + l.t * row_len d;
      goes : l.out.items ++ writes_of (row_blocks (own_row d l.cells l.share) l.place (row_len d) l.t (l.t-end - l.t))
          ≡ l.initial.out.items ++ writes_of (row_blocks (own_row d l.cells l.share) l.at (row_len d) 0 l.share.rows);
    }
