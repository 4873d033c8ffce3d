-- An image in memory that nobody writes while it is looked at.
use Rattle.std.specs.Prelude.{ℕ, List, [], true, Some, None}
use Rattle.h5w_image.specs.View.{ImageView}

-- it tells its bytes, and does not fail
abbrev pub still : List ℕ → ImageView
still bytes = record { bytes = Some bytes; history = None; disk = None; alone = true; faults = 0; through = []; pieces = 0; end = 0 }
