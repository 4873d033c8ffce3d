use Rattle.std.proofs.Common.{◌≡◌, false, map, drop}
use Rattle.h5w_model.specs.Tables.{in_leaf, key_below}
use Rattle.h5w_model.specs.declared.cell.Key.{Key}
use Rattle.h5w_bt.specs.Parts.{record_of}
use Rattle.h5w_lookup.proofs.content.among_from.Given as goal

abbrev pub invariant-loop-i : goal.invariant-loop-i
invariant-loop-i l = (k : Key) → key_below k l.key ≡ false → in_leaf k (drop l.i (map record_of l.records)) ≡ in_leaf k (drop l.from (map record_of l.records))
