use Rattle.std.proofs.Common.{◌≡◌, ◌+◌, ◌-◌, ◌*◌, ◌++◌, length}
use Rattle.h5w_chunks.specs.Grids.{copies, dataset_of, fill_cell, row_len}
use Rattle.h5w_chunks.specs.Shares.{own_row, padded_rows, share_rows}
use Rattle.h5w_chunks.proofs.grid.Grid.put_rows.Given as goal

abbrev pub invariant-loop-t : goal.invariant-loop-t
invariant-loop-t l =
    let d = dataset_of l.self in
    record {
      long : length l.out.items ≡ length l.initial.out.items + l.t * row_len d;
      goes : l.out.items ++ padded_rows (own_row d l.cells l.share) (copies (d.layout.chunk_cols - l.share.columns) (fill_cell d)) l.t (l.t-end - l.t)
          ≡ l.initial.out.items ++ share_rows d l.cells l.share;
    }
