use Rattle.std.proofs.Common.{◌≡◌, ◌+◌, ◌*◌, ◌-◌, ◌^◌, ◌≤◌, map, drop}
use Rattle.std.specs.Prelude.{sum_by}
use Rattle.h5w_model.specs.Findings.{Used}
use Rattle.h5w_check.specs.Ranges.{used_of}
use Rattle.h5w_check.proofs.overlap.bytes.Given as goal

abbrev pub invariant-loop-r : goal.invariant-loop-r
invariant-loop-r l = record {
  same : l.sum + sum_by (λ (u : Used). u.len) (map used_of (drop l.r-index l.ranges)) ≡ sum_by (λ (u : Used). u.len) (map used_of l.ranges);
  low : l.sum ≤ l.r-index * (2 ^ 64 - 1);
}
