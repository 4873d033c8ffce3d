use Rattle.std.proofs.Common.{◌≡◌, ◌-◌, ℕ, List, map, pos, sum, take}
use Rattle.h5w_image.specs.View.{Same}
use Rattle.h5w_reader.specs.Cores.{reader}
use Rattle.h5w_steady.specs.Steady.{steady}
use Rattle.h5w_make.specs.Readings.{IsReaderOf}
use Rattle.h5w_make.proofs.reading.sum_rows.Given as goal

abbrev pub invariant-loop-from : goal.invariant-loop-from
invariant-loop-from l =
    ((ns : List ℕ) → IsReaderOf l.initial.image.bytes (map pos ns) (reader l.initial.call) → l.total ≡ sum (take l.from ns))
    × ((reader l.call ≡ reader l.initial.call) × Same (steady l.initial.image) (steady l.image))

abbrev pub decreases-loop-from : goal.decreases-loop-from
decreases-loop-from l = l.rows - l.from
