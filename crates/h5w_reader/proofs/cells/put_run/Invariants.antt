use Rattle.std.proofs.Common.{◌≡◌, ◌≤◌, ◌+◌, ◌/◌, ◌++◌, length}
use Rattle.std.specs.Vec.{vec_len, vec_capacity}
use Rattle.h5w_types.specs.Fields.{int_type_of}
use Rattle.h5w_reader.specs.Cells.{cell_values}
use Rattle.h5w_reader.proofs.cells.put_run.Given as goal

abbrev pub invariant-loop-cell : goal.invariant-loop-cell
invariant-loop-cell l = record {
  size : l.cell-iterator.size ≡ l.t.size;
  goes : l.values.items ++ cell_values (int_type_of l.t) (length l.cell-iterator.rest.now / l.t.size) l.cell-iterator.rest.now ≡ l.initial.values.items ++ cell_values (int_type_of l.t) (length l.bytes / l.t.size) l.bytes;
  room : vec_len l.values + length l.cell-iterator.rest.now / l.t.size ≤ vec_capacity l.values;
}
