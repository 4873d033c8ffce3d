use Rattle.std.proofs.Common.{◌≡◌, ◌/◌, ◌-◌, ◌≤◌}
use Rattle.h5w_reader.specs.Values.{rows_rest, reading_with}
use Rattle.h5w_reader.proofs.values.Span.go_on.Given as goal

abbrev pub invariant-loop-band : goal.invariant-loop-band
invariant-loop-band l = record {
  low : l.self.from / l.self.dataset.layout.chunk.0 ≤ l.band;
  same : rows_rest (reading_with l.known l.self.dataset) l.self.from l.self.to l.band l.values.items ≡ rows_rest (reading_with l.known l.self.dataset) l.self.from l.self.to l.initial.band l.initial.values.items;
}

abbrev pub decreases-loop-band : goal.decreases-loop-band
decreases-loop-band l = l.end - l.band
