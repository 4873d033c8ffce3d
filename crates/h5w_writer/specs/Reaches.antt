-- Which chunks HDF5's library finds on an image, and which the session's index says that readers look for.
use Rattle.std.specs.Prelude.{◌≡◌, ◌≢◌, ◌⊎◌, ℕ, ◌<◌, List, get_or}
use Rattle.h5w_model.specs.Numbers.{range, undefined}
use Rattle.h5w_model.specs.Arrays.{eahd_len, numbers_in}
use Rattle.h5w_model.specs.Datasets.{Described}
use Rattle.h5w_model.specs.Logs.{div_up}
use Rattle.h5w_model.specs.declared.cell.IndexKind.TheVariants.{Array}
use Rattle.h5w_model.specs.declared.cell.Key.{Key}
use Rattle.h5w_chunks.specs.Shares.{first_line}
use Rattle.h5w_step_laws.specs.Moments.{Moment, Represents}
use Rattle.h5w_flush_laws.specs.Knowledge.{IsMap}
use Rattle.h5w_writer.specs.Sessions.{AreReached, Session}

-- The max index set of the array's header on the image, the fifth of its six numbers, is above each chunk that the rows need and that has an
-- address: HDF5's library takes each chunk from that number on for one without an address.
abbrev pub FindsEach : Described → (Key → ℕ) → List ℕ → Type 0
FindsEach d address img = (key : Key) → key.i < first_line d (div_up d.shape.rows d.layout.chunk_rows) → address key ≢ undefined → key.i < get_or (numbers_in (range img d.layout.address eahd_len) 6 12) 4 0

-- so it is of the array of a file with this name
abbrev pub FileFinds : List ℕ → List ℕ → Type 0
FileFinds img name = (m : Moment) (address : Key → ℕ) → Represents img name m → IsMap img m.dataset address → m.dataset.layout.index ≡ Array → FindsEach m.dataset address img

-- Readers look for each chunk that the planned rows need, where these are more than so many, or where it was so of the file that the session
-- began over.
abbrev pub ReachedFrom : ℕ → List ℕ → Session → Type 0
ReachedFrom first img s = (first < s.dataset.shape.rows) ⊎ FileFinds img s.name → AreReached s
