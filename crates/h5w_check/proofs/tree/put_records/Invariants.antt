use Rattle.std.proofs.Common.{◌≡◌, ◌^◌, ◌<◌, [], map, drop}
use Rattle.h5w_bt.specs.Parts.{record_of}
use Rattle.h5w_check.specs.Spans.{span_of}
use Rattle.h5w_check.specs.Nodes.{records_after}
use Rattle.h5w_check.proofs.tree.put_records.Given as goal

abbrev pub invariant-loop-r : goal.invariant-loop-r
invariant-loop-r l = record {
  same : records_after l.bounds.end l.bounds.chunk l.initial.ranges (span_of []) (map record_of l.records) ≡ records_after l.bounds.end l.bounds.chunk l.ranges l.span (drop l.r-index (map record_of l.records));
  fits : l.span.count < 2 ^ 128;
}
