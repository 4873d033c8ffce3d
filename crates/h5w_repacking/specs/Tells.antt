-- What the writing of datasets into a new file tells and leaves, in words of the bytes of both files.
use Rattle.std.specs.Prelude.{◌≡◌, ℕ, Bool, length, List, Option, None, IfSome, Result, Ok, Err}
use Rattle.h5w_model.specs.Causes.{Rose}
use Rattle.h5w_model.specs.Tables.{Reading}
use Rattle.h5w_image.specs.View.{DiskView, file}
use Rattle.h5w_text.specs.Streams.{SinkView}
use Rattle.h5w_text.specs.declared.error.ErrorLine.{ErrorLine}
use Rattle.h5w_text.specs.declared.error.ErrorLine.TheVariants as errors
use Rattle.h5w_text.specs.declared.status.Status.{Status}
use Rattle.h5w_files.specs.Ends.{EndsBy}
use Rattle.h5w_survey.specs.Surveys.{IsClosedFile}
use Rattle.h5w_repack.specs.Packed.{HasCopies, PassesLimit}
use Rattle.h5w_repacking.specs.Repacks.{ErrorLeaves, HasNew, OfBytes, PackedFile, RefusedFor, repack_text}

-- The new file has copies of what the source shows, and ends where it is said.
pub record HasCopied (file_name : List ℕ) (names : List (List ℕ)) (limit : ℕ) (to : List ℕ) (p : PackedFile) (v w : DiskView) : Type 0 where
  pub bytes : List ℕ
  pub new : HasNew to bytes v w
  pub copies : IfSome v.told (λ d. OfBytes (file d file_name) (λ img. HasCopies img names limit p.ranges bytes × (p.end ≡ length bytes)))

-- by the answer: the new file, or what its error leaves
abbrev pub TellsLeft : List ℕ → List (List ℕ) → ℕ → List ℕ → DiskView → DiskView → Result PackedFile ErrorLine → Type 0
TellsLeft file_name names limit to v w (Ok p) = HasCopied file_name names limit to p v w
TellsLeft file_name names limit to v w (Err e) = ErrorLeaves to v w e

-- a valid file that nobody writes, with the datasets of these names
abbrev pub IsClosed : List (List ℕ) → List ℕ → Type 0
IsClosed names img = (shown : List Reading) × IsClosedFile img names shown

-- why, by the bytes of the source and those of what has the new file's name: the first reason in the order tried
abbrev pub TellsWhy : List (List ℕ) → ℕ → Option (List ℕ) → Option (List ℕ) → ErrorLine → Type 0
TellsWhy names limit source target e = RefusedFor names (IsClosed names) (λ full img. PassesLimit img names limit full) source target e

abbrev pub TellsBy : List (List ℕ) → ℕ → Option (List ℕ) → Option (List ℕ) → Result PackedFile ErrorLine → Type 0
TellsBy names limit source target (Ok p) = target ≡ None
TellsBy names limit source target (Err e) = TellsWhy names limit source target e

-- An answer between two states of a disk.
pub record TellsTo (file_name to : List ℕ) (names : List (List ℕ)) (limit : ℕ) (v w : DiskView) (answer : Result PackedFile ErrorLine) : Type 0 where
  pub leaves : TellsLeft file_name names limit to v w answer
  pub exact : IfSome v.told (λ d. TellsBy names limit (file d file_name) (file d to) answer)
  pub cause : answer ≡ Err errors.Disk → Rose v.faults w.faults

-- how the writing of datasets into a new file ends
abbrev pub RepackTells : List ℕ → List ℕ → List (List ℕ) → ℕ → Bool → DiskView → DiskView → Status → SinkView → SinkView → Type 0
RepackTells file_name to names limit ranges v w status k l =
    EndsBy {A = PackedFile} (λ answer text. TellsTo file_name to names limit v w answer × (text ≡ repack_text ranges answer)) status k l
