use Rattle.std.proofs.Common.{◌≡◌, map, drop}
use Rattle.h5w_model.specs.Findings.{first_overlap}
use Rattle.h5w_check.specs.Ranges.{used_of}
use Rattle.h5w_check.proofs.overlap.overlap_behind.Given as goal

abbrev pub invariant-loop-r : goal.invariant-loop-r
invariant-loop-r l = first_overlap (used_of l.before) (map used_of (drop l.r-index l.rest)) ≡ first_overlap (used_of l.initial.before) (map used_of l.rest)
