use Rattle.std.proofs.Common.{◌≡◌, ◌+◌, ◌*◌, ◌++◌, map, take, drop}
use Rattle.std.specs.List.{All, flat_map}
use Rattle.h5w_model.specs.Trees.{record_bytes}
use Rattle.h5w_bt.specs.Parts.{record_of, IsRecord}
use Rattle.h5w_bt.proofs.records.write_records.Given as goal

abbrev pub invariant-loop-i : goal.invariant-loop-i
invariant-loop-i l = record {
  written : l.out ≡ (take 6 l.fn.out ++ flat_map record_bytes (take l.i (map record_of l.records))) ++ drop (6 + 24 * l.i) l.fn.out;
  fits : All (λ r. IsRecord (record_of r)) (take l.i l.records);
}
