use Rattle.std.proofs.Common.{◌≡◌, ◌+◌, ◌++◌}
use Rattle.h5w_model.specs.Calls.{first_in_band}
use Rattle.h5w_reader.specs.Bands.{reading_with}
use Rattle.h5w_dataset.specs.Described.{described_of}
use Rattle.h5w_reader.specs.Grids.{row_values}
use Rattle.h5w_lookup.specs.declared.known.Known.{Known}
use Rattle.h5w_reader.proofs.SideLemmas.{columns_before}
use Rattle.h5w_reader.proofs.grid.Grid.put_row.Given as goal

abbrev pub invariant-loop-column : goal.invariant-loop-column
invariant-loop-column l =
    (k : Known) → l.out.items ≡ l.initial.out.items ++ row_values (reading_with k l.self.dataset) l.self.from l.ranges (first_in_band (described_of l.self.dataset) l.band l.self.from + l.row) 0 (columns_before (described_of l.self.dataset) l.column)
