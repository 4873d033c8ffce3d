use Rattle.std.proofs.Common.{◌≡◌, ◌≤◌, length}
use Rattle.h5w_reader.specs.Bands.{reading_with}
use Rattle.h5w_dataset.specs.Described.{described_of}
use Rattle.h5w_reader.specs.Grids.{AreWhole, grid_rest}
use Rattle.h5w_reader.proofs.grid.Grid.go_through.Given as goal

abbrev pub invariant-loop-column : goal.invariant-loop-column
invariant-loop-column l = record {
  count : l.column ≡ length l.ranges.items;
  within : l.column ≤ l.across;
  whole : AreWhole (described_of l.self.dataset) l.band l.self.from l.self.to l.ranges.items;
  same : grid_rest (reading_with l.known l.self.dataset) l.self.from l.self.to l.band l.column l.values.items l.ranges.items ≡ grid_rest (reading_with l.known l.self.dataset) l.self.from l.self.to l.band (length l.initial.ranges.items) l.values.items l.initial.ranges.items;
}
