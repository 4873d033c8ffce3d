-- A takeover is never refused on the image of a session, wherever that stopped.
use Rattle.std.specs.Prelude.{◌≡◌, ℕ, ◌^◌, ◌<◌, List, length, None, Result, IfErr, Ok}
use Rattle.h5w_model.specs.Logs.{Log, first_rows, flushed_at}
use Rattle.h5w_model.specs.Prefixed.{IsPosition, image_at}
pub use Rattle.h5w_front_laws.specs.Fronts.{IsLeftOpen}
use Rattle.h5w_opening.specs.Errors.{refusal_of}
use Rattle.h5w_opening.specs.Openings.{Opened, refused_dataset}
use Rattle.h5w_opening.specs.declared.error.OpenError.{OpenError}
use Rattle.h5w_reopening_laws.specs.Reopens.{IsCleared, Reopens}
use Rattle.h5w_writer.specs.Past.{HasOpened}
use Rattle.h5w_writer.specs.Sessions.{Session}
use Rattle.h5w_writer.specs.Stands.{Stands}
use Rattle.h5w_several_open.specs.Beginnings.{IsBeginAnswer, IsBegunOver, IsNotBegun, found_by, taken_over}
use Rattle.h5w_several_open.specs.declared.beginning.Beginning.{Beginning}

-- all up to the index is found in a file of these bytes, which is opened or taken over, and its dataset is not refused
pub record IsBegunFile (img name : List ℕ) : Type 0 where
  pub by : Beginning
  pub found : Opened
  pub is : found_by by (length img) name img ≡ Ok found
  pub unrefused : refused_dataset found ≡ None

-- ---- Laws

-- At each position of the log of each session with such an image nothing refuses a takeover; of one that began over a file that was there
-- nothing refused that file.
abbrev pub NeverRefused : Type 0
NeverRefused = (s : Session) (log : Log) (p : ℕ) (e : OpenError) → Stands s log → IsPosition log p → (HasOpened s log → IsBegunFile log.start s.name) → length log.start < 2 ^ 64
    → IsLeftOpen (image_at log p) → IsNotBegun taken_over (image_at log p) (length (image_at log p)) s.name e → ⊥

-- So a takeover answers a session, or what is no refusal: a failed image, or want of memory.
abbrev pub AnswersSession : Type 0
AnswersSession = (s : Session) (log : Log) (p limit budget : ℕ) (r : Result Session OpenError) → Stands s log → IsPosition log p → (HasOpened s log → IsBegunFile log.start s.name) → length log.start < 2 ^ 64
    → IsLeftOpen (image_at log p) → IsBeginAnswer taken_over (image_at log p) (length (image_at log p)) s.name limit budget r → IfErr r (λ e. refusal_of e ≡ None)

-- What a session was begun over is such a file, so that it is taken over again after the next stop, too.
abbrev pub TakenIsBegun : Type 0
TakenIsBegun = (by : Beginning) (img name : List ℕ) (limit budget : ℕ) (s : Session) → IsBegunOver by img (length img) name limit budget s → IsBegunFile img name

-- Where the flags of writers are cleared in its place, the file is opened, as one that a session created or opened is.
abbrev pub BegunReopens : Type 0
BegunReopens = (s : Session) (log : Log) (p : ℕ) (new : List ℕ) → Stands s log → IsPosition log p → (HasOpened s log → IsBegunFile log.start s.name) → length log.start < 2 ^ 64
    → IsCleared (image_at log p) new → Reopens new s.name (flushed_at log p) log.columns (first_rows log (flushed_at log p))
