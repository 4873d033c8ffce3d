-- What the threads of a run take along.
use Rattle.std.specs.Prelude.{◌≡◌, ℕ, []}
use Rattle.h5w_creation_laws.specs.CreatedFiles.{CreatedFile}
use Rattle.h5w_shared.specs.Seats.{ImageId}
use Rattle.h5w_live_reading.specs.Seats.{AreSeated}
use Rattle.h5w_live.specs.Reports.{HasPutAll}
use Rattle.h5w_live.specs.Writing.{AreBatches, HasFlushed}
use Rattle.h5w_live.specs.declared.threads.Mirrored.{Mirrored}
use Rattle.h5w_live.specs.declared.threads.Writer.{Writer}
use Rattle.h5w_live.specs.declared.threads.Written.{Written}

-- the writer is about to put its first batch into a file that was just created
pub record IsWriting (w : Writer) : Type 0 where
  pub image : w.seat.image ≡ w.image.now
  pub rows : AreBatches w.session.dataset.shape.cols w.batches.now
  pub created : (f : CreatedFile) × (most : ℕ) × HasFlushed f most [] w.session w.seat []

-- what it leaves of all batches
abbrev pub WriterLeaves : Writer → Written → Type 0
WriterLeaves w written = (f : CreatedFile) (most : ℕ) → HasFlushed f most [] w.session w.seat [] → HasPutAll f most w.batches.now w.image.now written

-- a second image follows this one, and its readers have their seats
pub record IsMirrored (i : ImageId) (m : Mirrored) : Type 0 where
  pub first : m.follow.seat.image ≡ i
  pub second : m.follow.second.image ≡ m.readers.image.now
  pub readers : AreSeated m.readers
