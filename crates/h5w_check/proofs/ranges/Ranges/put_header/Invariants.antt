use Rattle.std.proofs.Common.{◌≡◌, drop}
use Rattle.h5w_model.specs.Findings.{header_ranges}
use Rattle.h5w_headers.specs.Headers.{ranges_of}
use Rattle.h5w_check.specs.Ranges.{after}
use Rattle.h5w_check.proofs.ranges.Ranges.put_header.Given as goal

abbrev pub invariant-loop-extent : goal.invariant-loop-extent
invariant-loop-extent l = after l.initial.self (header_ranges l.end (ranges_of l.extents)) ≡ after l.self (header_ranges l.end (ranges_of (drop l.extent-index l.extents)))
