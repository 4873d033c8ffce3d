use Rattle.std.proofs.Common.{◌≡◌, ◌++◌, ◌*◌, drop, length, take}
use Rattle.h5w_types.specs.Fields.{int_type_of}
use Rattle.h5w_types.specs.Runs.{run_bytes}
use Rattle.h5w_types.proofs.run.write_little.Given as goal

abbrev pub invariant-loop-i : goal.invariant-loop-i
invariant-loop-i l = record {
  goes : take (l.i * l.t.size) l.out ++ run_bytes (int_type_of l.t) (drop l.i l.values) ≡ run_bytes (int_type_of l.t) l.values;
  sized : length l.out ≡ length l.values * l.t.size;
}
