-- An index that stands in a file, whichever its kind, and what a check and a reader find there.
use Rattle.std.specs.Prelude.{◌≡◌, ℕ, List}
use Rattle.h5w_model.specs.Datasets.{Described}
use Rattle.h5w_model.specs.Findings.{chunk_bytes}
use Rattle.h5w_step_laws.specs.Ranges.{AllEndBy}
use Rattle.h5w_step_laws.specs.Indexes.{IsIndex}
use Rattle.h5w_flush_laws.specs.Knowledge.{IsMap}
use Rattle.h5w_index.specs.Views.{IndexView, IsClean, IsSound, StandsOn, address_in, behind_of, fixed_of, header_place, kind_of}

-- the check finds the index's ranges, and each key its address
pub record IndexOf (img : List ℕ) (end : ℕ) (d : Described) (w : IndexView) : Type 0 where
  pub index : IsIndex img end d (fixed_of w) (behind_of (chunk_bytes d) w)
  pub map : IsMap img d (λ key. address_in w key)

-- So it is of an index that stands, unchanged, at the place that the dataset names, where all its ranges end by the end of the file.
abbrev pub IndexStands : Type 0
IndexStands = (img : List ℕ) (end : ℕ) (d : Described) (w : IndexView) → IsSound w → IsClean w → StandsOn w img → d.layout.index ≡ kind_of w → d.layout.address ≡ header_place w → AllEndBy end (fixed_of w)
    → AllEndBy end (behind_of (chunk_bytes d) w) → IndexOf img end d w
