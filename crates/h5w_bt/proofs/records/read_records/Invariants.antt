use Rattle.std.proofs.Common.{◌≡◌, map}
use Rattle.h5w_model.specs.Trees.{records_in}
use Rattle.h5w_bt.specs.Parts.{record_of}
use Rattle.h5w_bt.proofs.records.read_records.Given as goal

abbrev pub invariant-loop-i : goal.invariant-loop-i
invariant-loop-i l = map record_of l.records.items ≡ records_in l.b l.i 6
