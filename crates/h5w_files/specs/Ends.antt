-- How a command ends: with all done, or with an error, and what it had to write.
use Rattle.std.specs.Prelude.{◌≡◌, ◌⊎◌, ℕ, List, Option, Some, Result, Ok, Err}
use Rattle.h5w_model.specs.Causes.{Rose}
use Rattle.h5w_image.specs.View.{DiskState, DiskView, file}
use Rattle.h5w_text.specs.Streams.{SinkView, Gave}
use Rattle.h5w_text.specs.Says.{Said}
use Rattle.h5w_text.specs.Statuses.{status_of}
use Rattle.h5w_text.specs.declared.error.ErrorLine.{ErrorLine}
use Rattle.h5w_text.specs.declared.error.ErrorLine.TheVariants as errors
use Rattle.h5w_text.specs.declared.status.Status.{Status}
use Rattle.h5w_text.specs.declared.status.Status.TheVariants as statuses

-- the status of an answer
abbrev pub status_by : {A : Type 0} → Result A ErrorLine → Status
status_by (Ok a) = statuses.Done
status_by (Err e) = status_of e

-- The answer is what is given, unless the disk failed, or memory was refused.
abbrev pub IsGivenBy : {A : Type 0} → Result A ErrorLine → Result A ErrorLine → Type 0
IsGivenBy given (Ok a) = given ≡ Ok a
IsGivenBy given (Err errors.Disk) = Unit {0}
IsGivenBy given (Err errors.Memory) = Unit {0}
IsGivenBy given (Err e) = given ≡ Err e

-- What had to be written by an answer was written, and the status is the answer's; or the sink failed behind some first part
-- of it.
pub record EndsBy {A : Type 0} (Comes : Result A ErrorLine → List ℕ → Type 0) (status : Status) (k l : SinkView) : Type 0 where
  pub answer : Result A ErrorLine
  pub text : List ℕ
  pub comes : Comes answer text
  pub said : Said text (status_by answer) status k l

-- What comes before the last text of an answer was written; behind it the last was, and the status is the answer's, or the sink failed
-- behind some first part of it.
pub record EndsBehind {A : Type 0} (Comes : Result A ErrorLine → List ℕ → List ℕ → Type 0) (status : Status) (k l : SinkView) : Type 0 where
  pub answer : Result A ErrorLine
  pub front : List ℕ
  pub last : List ℕ
  pub comes : Comes answer front last
  pub middle : SinkView
  pub gave : Gave front k middle
  pub said : Said last (status_by answer) status middle l

-- A disk tells its files, one has this name, and an answer that is no error is given of its bytes.
pub record HasGood {A : Type 0} (given : Option (List ℕ) → Result A ErrorLine) (name : List ℕ) (v : DiskView) : Type 0 where
  pub state : DiskState
  pub told : v.told ≡ Some state
  pub value : A
  pub good : given (file state name) ≡ Ok value

-- Where nothing is wrong with the file, and neither disk nor sink failed, a command ends when all is done, or for want of
-- memory.
abbrev pub EndsWell : {A : Type 0} → (Option (List ℕ) → Result A ErrorLine) → List ℕ → DiskView → DiskView → Status → SinkView → SinkView → Type 0
EndsWell given name v w status k l =
    HasGood given name v → (Rose v.faults w.faults → ⊥) → (Rose k.faults l.faults → ⊥) → (status ≡ statuses.Done) ⊎ (status ≡ statuses.Memory)
