-- What is left of a read that waits for the range of a chunk of two dimensions.
use Rattle.std.specs.Prelude.{length, List, Result, ℤ}
use Rattle.h5w_model.specs.Programs.{Prog, bind}
use Rattle.h5w_model.specs.declared.refusal.ReadError.{ReadError}
use Rattle.h5w_lookup.specs.Gathering.{gathering}
use Rattle.h5w_reader.specs.Bands.{reading_with}
use Rattle.h5w_reader.specs.Grids.{grid_given}
use Rattle.h5w_lookup.specs.declared.known.Known.{Known}
use Rattle.h5w_reader.specs.declared.grid.Beside.{Beside}

abbrev pub grid_left : Known → Beside → Prog (Result (List ℤ) ReadError)
grid_left k s =
    bind (gathering s.gather) (grid_given (reading_with k s.grid.dataset) s.grid.from s.grid.to s.band (length s.ranges.items) s.values.items s.ranges.items s.gather.start)
