-- Which chunks HDF5's library finds in the file of a session.
use Rattle.std.specs.Prelude.{◌≡◌, ◌⊎◌, ◌<◌, false, List, ℕ, []}
use Rattle.h5w_model.specs.Images.{image}
use Rattle.h5w_model.specs.Logs.{Log, hist, rows_in}
use Rattle.h5w_model.specs.declared.cell.IndexKind.TheVariants.{Array}
use Rattle.h5w_flush_laws.specs.Knowledge.{IsMap}
use Rattle.h5w_index.specs.Views.{address_in}
use Rattle.h5w_writer.specs.Reaches.{FileFinds, FindsEach}
use Rattle.h5w_writer.specs.Sessions.{Session, IsNamed}
use Rattle.h5w_writer.specs.Stands.{Stands}

-- the session's map is that of the image, and HDF5's library finds each chunk in it that the rows need
pub record FindsAll (s : Session) (img : List ℕ) : Type 0 where
  pub map : IsMap img s.dataset (address_in s.index)
  pub each : FindsEach s.dataset (address_in s.index) img

-- So it is of an array where nothing is pending and no rows wait, once the session brought rows, whatever file it began over; and also before
-- where it was so of that file.
abbrev pub SessionFinds : Type 0
SessionFinds = (s : Session) (log : Log) → Stands s log → s.stopped ≡ false → s.pending ≡ [] → s.waits ≡ 0 → IsNamed s.dataset → s.dataset.layout.index ≡ Array
    → (rows_in log log.values < s.dataset.shape.rows) ⊎ FileFinds log.start s.name → FindsAll s (image log.start (hist log.events))
