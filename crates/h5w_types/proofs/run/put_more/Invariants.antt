use Rattle.std.proofs.Common.{◌≡◌, ◌+◌, ◌*◌, ◌≤◌, ◌++◌, length, None}
use Rattle.std.specs.Vec.{vec_len, vec_capacity}
use Rattle.h5w_model.specs.Lawful.{first_outside}
use Rattle.h5w_types.specs.Fields.{int_type_of}
use Rattle.h5w_types.specs.Runs.{run_bytes}
use Rattle.h5w_types.proofs.run.put_more.Given as goal

abbrev pub invariant-loop-part : goal.invariant-loop-part
invariant-loop-part l = record {
  size : l.part-iterator.size ≡ 128;
  goes : l.out.items ++ run_bytes (int_type_of l.t) l.part-iterator.rest.now ≡ l.fn.out.items ++ run_bytes (int_type_of l.t) l.fn.values;
  fit : first_outside (int_type_of l.t) 0 l.part-iterator.rest.now ≡ None;
  room : vec_len l.out + length l.part-iterator.rest.now * l.t.size ≤ vec_capacity l.out;
}
