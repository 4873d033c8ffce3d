use Rattle.std.proofs.Common.{◌≡◌, map, drop}
use Rattle.h5w_model.specs.Tables.{in_leaf}
use Rattle.h5w_bt.specs.Parts.{record_of}
use Rattle.h5w_lookup.proofs.content.among_records.Given as goal

abbrev pub invariant-loop-r : goal.invariant-loop-r
invariant-loop-r l = in_leaf l.key (drop l.r-index (map record_of l.records)) ≡ in_leaf l.key (map record_of l.records)
