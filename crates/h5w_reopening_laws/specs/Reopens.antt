-- A file that a writer was stopped over is opened again, wherever that was, once the flags of writers are cleared.
use Rattle.std.specs.Prelude.{◌≡◌, ℕ, ◌^◌, ◌<◌, ◌==◌, false, List, length, None, Ok, ℤ}
use Rattle.h5w_model.specs.Numbers.{range}
use Rattle.h5w_model.specs.Images.{apply}
use Rattle.h5w_model.specs.Programs.{eval}
use Rattle.h5w_model.specs.Superblock.{super_at}
use Rattle.h5w_model.specs.Findings.{Summary, Valid}
use Rattle.h5w_model.specs.Logs.{Log, first_rows, flushed_at}
use Rattle.h5w_model.specs.Prefixed.{IsPosition, image_at}
use Rattle.h5w_model.specs.Tables.{Reads}
use Rattle.h5w_model.specs.declared.piece.Write.{Write}
use Rattle.h5w_model.specs.declared.root.Super.{Super}
use Rattle.h5w_opening.specs.Openings.{Opened, is_open, looked_for, refused_dataset}
use Rattle.h5w_opening.specs.declared.error.OpenError.{OpenError}
use Rattle.h5w_writer.specs.Past.{HasOpened}
use Rattle.h5w_writer.specs.Sessions.{Session}
use Rattle.h5w_writer.specs.Stands.{Stands}
use Rattle.h5w_writer_open.specs.OpenAnswers.{IsNotOpened, IsOpenedOver}

-- all up to the index is found in a file of these bytes, and its dataset is not refused
pub record IsWritableFile (img name : List ℕ) : Type 0 where
  pub found : Opened
  pub is : eval img (looked_for (length img) name) ≡ Ok found
  pub unrefused : refused_dataset found ≡ None

-- A write of the superblock of an image with version 3 and the flags of no writer, all else equal.
pub record ClearsFlags (img : List ℕ) (w : Write) : Type 0 where
  pub flags : ℕ
  pub closed : is_open flags ≡ false
  pub place : w.at ≡ 0
  pub len : length w.piece ≡ 48
  pub reads : (s : Super) → super_at (range img 0 48) ≡ Ok s → super_at w.piece ≡ Ok (record s { version = 3; flags = flags })

-- The flags of writers of an image are cleared in another: by such a write, or none was set.
pub data IsCleared (img new : List ℕ) : Type 0 where
  was_clear : (s : Super) → super_at (range img 0 48) ≡ Ok s → (s.version == 2) ≡ false → is_open s.flags ≡ false → new ≡ img → IsCleared img new
  by_write : (w : Write) → ClearsFlags img w → new ≡ apply w img → IsCleared img new

-- A valid file that reads as these values and that nothing refuses to who opens it: so an open answers a session over these rows, or the
-- image failed, or memory ran out.
pub record Reopens (img name : List ℕ) (rows columns : ℕ) (values : List ℤ) : Type 0 where
  pub summary : Summary
  pub valid : Valid img name summary
  pub reads : Reads img name rows columns values
  pub writable : IsWritableFile img name
  pub rows_are : writable.found.header.dataset.shape.rows ≡ rows
  pub opens : (e : OpenError) → IsNotOpened img (length img) name e → ⊥

-- ---- Laws

-- At each position of the log of each session, whether it created its file or opened it, the image with its flags cleared is a file that is
-- opened: valid, with the rows that are flushed there.
abbrev pub StopReopens : Type 0
StopReopens = (s : Session) (log : Log) (p : ℕ) (new : List ℕ) → Stands s log → IsPosition log p → (HasOpened s log → IsWritableFile log.start s.name) → length log.start < 2 ^ 64
    → IsCleared (image_at log p) new → Reopens new s.name (flushed_at log p) log.columns (first_rows log (flushed_at log p))

-- what a session was opened over is such a file, so that it is opened again after the next stop, too
abbrev pub OpenedIsWritable : Type 0
OpenedIsWritable = (img name : List ℕ) (limit budget : ℕ) (s : Session) → IsOpenedOver img (length img) name limit budget s → IsWritableFile img name
