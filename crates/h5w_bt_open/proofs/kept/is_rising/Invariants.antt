use Rattle.std.proofs.Common.{◌≡◌, ◌-◌, drop}
use Rattle.h5w_model.specs.Findings.{are_rising}
use Rattle.h5w_bt_index.specs.Index.{keys_of}
use Rattle.h5w_bt_open.proofs.kept.is_rising.Given as goal

abbrev pub invariant-loop-at : goal.invariant-loop-at
invariant-loop-at l = are_rising (keys_of (drop (l.at - 1) l.records)) ≡ are_rising (keys_of l.records)
