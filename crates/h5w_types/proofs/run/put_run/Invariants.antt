use Rattle.std.proofs.Common.{◌≡◌, ◌++◌, ◌+◌, ◌-◌, ◌*◌, ◌≤◌, drop, length}
use Rattle.std.specs.Vec.{vec_len, vec_capacity}
use Rattle.h5w_types.specs.Fields.{int_type_of}
use Rattle.h5w_types.specs.Runs.{run_bytes}
use Rattle.h5w_types.proofs.run.put_run.Given as goal

abbrev pub invariant-loop-v : goal.invariant-loop-v
invariant-loop-v l = record {
  goes : l.out.items ++ run_bytes (int_type_of l.t) (drop l.v-index l.values) ≡ l.initial.out.items ++ run_bytes (int_type_of l.t) l.values;
  room : vec_len l.out + (length l.values - l.v-index) * l.t.size ≤ vec_capacity l.out;
  capacity : vec_capacity l.initial.out ≤ vec_capacity l.out;
}
