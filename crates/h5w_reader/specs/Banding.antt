-- What is left of a read, once a band was gone through.
use Rattle.std.specs.Prelude.{ℕ, ◌+◌, List, Result, ℤ}
use Rattle.std.specs.Global.{Vec}
use Rattle.h5w_model.specs.Programs.{Prog}
use Rattle.h5w_model.specs.declared.refusal.ReadError.{ReadError}
use Rattle.h5w_reader.specs.Bands.{reading_with}
use Rattle.h5w_reader.specs.Grids.{bands_rest}
use Rattle.h5w_reader.specs.Values.{reading_values}
use Rattle.h5w_lookup.specs.declared.known.Known.{Known}
use Rattle.h5w_reader.specs.declared.grid.Grid.{Grid}
use Rattle.h5w_reader.specs.declared.values.Reads.{Reads}
use Rattle.h5w_lookup.specs.declared.outcome.Progress.{Progress}
use Rattle.h5w_lookup.specs.declared.outcome.Progress.TheVariants.{Done, Looks}

-- of band i
abbrev pub banded : Known → Grid → ℕ → Progress (Vec ℤ) Reads → Prog (Result (List ℤ) ReadError)
banded k s i (Done vs) = bands_rest (reading_with k s.dataset) s.from s.to (i + 1) vs.items
banded k s i (Looks v) = reading_values k v
