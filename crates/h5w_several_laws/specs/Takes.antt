-- A session that goes on where another one stopped.
use Rattle.std.specs.Prelude.{◌≡◌, ℕ, List}
use Rattle.h5w_model.specs.Numbers.{undefined}
use Rattle.h5w_model.specs.Logs.{Log}
use Rattle.h5w_model.specs.Findings.{Used}
use Rattle.h5w_model.specs.declared.cell.Key.{Key}
use Rattle.h5w_space.specs.Space.{Space}
use Rattle.h5w_step_laws.specs.Files.{LayoutInChunk0}
use Rattle.h5w_step_laws.specs.Moments.{Moment}
use Rattle.h5w_step_laws.specs.Logs.{Goes, image_now}
use Rattle.h5w_flush_laws.specs.Knowledge.{IsMap}
use Rattle.h5w_flush_laws.specs.Flushes.{IsBegun, Rests}
use Rattle.h5w_model.specs.Several.{settled_log}

-- A log has come to a moment, in the middle of a flush or not, and readers may hold what they hold. A session that begins there, with the
-- index's map and places from the file's end on, rests over the log without what was not flushed.
abbrev pub TakesOver : Type 0
TakesOver = (name : List ℕ) (log : Log) (m : Moment) (held : List Used) (address : Key → ℕ) (s : Space) → Goes name log m held → IsMap (image_now log) m.dataset address → IsBegun m s
    → (m.dataset.layout.address ≡ undefined → LayoutInChunk0 (image_now log) m.place) → (r : Rests name (settled_log log) m address s) × (r.knows.held ≡ held)
