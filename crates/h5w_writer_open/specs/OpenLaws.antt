-- What is true of each file that is opened, and why a valid file is not.
use Rattle.std.specs.Prelude.{◌≡◌, ℕ, ◌^◌, ◌<◌, true, false, List, length, Some, Ok, Err, ℤ}
use Rattle.h5w_model.specs.Programs.{eval}
use Rattle.h5w_model.specs.Findings.{Summary, Valid}
use Rattle.h5w_model.specs.Tables.{Reads}
use Rattle.h5w_model.specs.declared.refusal.HeaderError.TheVariants.{Unknown}
use Rattle.h5w_model.specs.declared.refusal.ReadError.TheVariants.{Header}
use Rattle.h5w_opening.specs.Openings.{Opened, is_open, looked_for, refused_dataset}
use Rattle.h5w_opening.specs.declared.error.OpenError.{OpenError}
use Rattle.h5w_opening.specs.declared.error.OpenError.TheVariants.{Read, Version, Flags}
use Rattle.h5w_writer_open.specs.OpenAnswers.{IsNotOpened, writing_flags}
use Rattle.h5w_writer.specs.Sessions.{cleared}

-- Why a valid file is not opened: its superblock is of version 2; it is open, or was not closed; a header has a message that asks to be known where the file is written; or,
-- of what was found, the layout stands outside of chunk 0, a chunk is too large, or there is no column. Each index of a valid file is kept.
pub data IsLeft (img : List ℕ) (size : ℕ) (name : List ℕ) : OpenError → Type 0 where
  older : IsLeft img size name (Version 2)
  open_already : (flags : ℕ) → is_open flags ≡ true → IsLeft img size name (Flags flags)
  unknown : (at kind : ℕ) → eval img (looked_for size name) ≡ Err (Read (Header at (Unknown kind))) → IsLeft img size name (Read (Header at (Unknown kind)))
  dataset : (o : Opened) (e : OpenError) → eval img (looked_for size name) ≡ Ok o → refused_dataset o ≡ Some e → IsLeft img size name e

pub record OpenLaws : Type 0 where
  -- a valid file is refused by nothing else
  pub valid : (img name : List ℕ) (rows columns : ℕ) (values : List ℤ) (sm : Summary) (e : OpenError) → length img < 2 ^ 64 → Valid img name sm → Reads img name rows columns values → IsNotOpened img (length img) name e
      → IsLeft img (length img) name e
  -- a close gives back the flags of a file that nobody wrote
  pub closes : (flags : ℕ) → is_open flags ≡ false → cleared (writing_flags flags) ≡ flags
