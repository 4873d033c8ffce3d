use Rattle.std.proofs.Common.{◌≡◌, drop}
use Rattle.h5w_model.specs.Findings.{chunk_ranges}
use Rattle.h5w_check.specs.Ranges.{after}
use Rattle.h5w_check.proofs.ranges.Ranges.put_chunks.Given as goal

abbrev pub invariant-loop-address : goal.invariant-loop-address
invariant-loop-address l = after l.initial.self (chunk_ranges l.bounds.end l.bounds.chunk l.addresses) ≡ after l.self (chunk_ranges l.bounds.end l.bounds.chunk (drop l.address-index l.addresses))
