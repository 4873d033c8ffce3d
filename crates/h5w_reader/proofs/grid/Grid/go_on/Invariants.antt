use Rattle.std.proofs.Common.{◌≡◌, ◌≤◌, ◌/◌}
use Rattle.h5w_reader.specs.Bands.{reading_with}
use Rattle.h5w_reader.specs.Grids.{bands_rest}
use Rattle.h5w_reader.proofs.grid.Grid.go_on.Given as goal

abbrev pub invariant-loop-i : goal.invariant-loop-i
invariant-loop-i l = record {
  low : l.self.from / l.self.dataset.layout.chunk.0 ≤ l.i;
  same : bands_rest (reading_with l.known l.self.dataset) l.self.from l.self.to l.i l.values.items ≡ bands_rest (reading_with l.known l.self.dataset) l.self.from l.self.to l.band l.initial.values.items;
}
