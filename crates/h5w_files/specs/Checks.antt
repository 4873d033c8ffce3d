-- What a check of a file tells.
use Rattle.std.specs.Prelude.{◌≡◌, ℕ, List, [], ◌∷◌, ◌++◌, length, flat_map, codes, Option, Some, None, IfSome, IfErr, Result, Ok, Err}
use Rattle.h5w_model.specs.Causes.{Rose}
use Rattle.h5w_model.specs.Programs.{eval}
use Rattle.h5w_model.specs.Datasets.{refused_as}
use Rattle.h5w_model.specs.Tables.{format_limits}
use Rattle.h5w_model.specs.Findings.{AllSummary, Finding, found, overlap, check_all}
use Rattle.h5w_image.specs.View.{DiskView, file}
use Rattle.h5w_text.specs.Errors.{error_text}
use Rattle.h5w_text.specs.Streams.{SinkView}
use Rattle.h5w_text.specs.Table.{numbers_text}
use Rattle.h5w_text.specs.Replies.{spaced}
use Rattle.h5w_text.specs.declared.error.ErrorLine.{ErrorLine}
use Rattle.h5w_text.specs.declared.error.ErrorLine.TheVariants as errors
use Rattle.h5w_text.specs.declared.status.Status.{Status}
use Rattle.h5w_check.specs.Verdicts.{summary_of}
use Rattle.h5w_check.specs.declared.error.Summary as checked
use Rattle.h5w_check.specs.declared.error.CheckError.{CheckError}
use Rattle.h5w_check.specs.declared.error.CheckError.TheVariants as check_errors
use Rattle.h5w_files.specs.Images.{LeavesFiles}
use Rattle.h5w_files.specs.Ends.{IsGivenBy, EndsBy}

abbrev pub finding_line : Finding → ErrorLine
finding_line (found kind at) = errors.Finding kind at
finding_line (overlap at len other other_len) = errors.Overlap at len other other_len

-- what the bytes of a file are found to be, where it is there: valid for the datasets of these names, with this, or the first
-- finding that applies
abbrev pub check_of : List (List ℕ) → Option (List ℕ) → Result AllSummary ErrorLine
check_of names None = Err errors.Missing
check_of names (Some img) = refused_as finding_line (eval img (check_all format_limits names (length img)))

abbrev pub check_line : CheckError → ErrorLine
check_line (check_errors.Finding kind at) = errors.Finding kind at
check_line (check_errors.Overlap at len other other_len) = errors.Overlap at len other other_len
check_line check_errors.Failed = errors.Disk
check_line check_errors.OutOfMemory = errors.Memory

-- an answer by what its summary tells
abbrev pub summary_seen : Result checked.Summary ErrorLine → Result AllSummary ErrorLine
summary_seen (Ok s) = Ok (summary_of s)
summary_seen (Err e) = Err e

-- the errors of a check
abbrev pub IsOfCheck : ErrorLine → Type 0
IsOfCheck errors.Missing = Unit {0}
IsOfCheck (errors.Finding kind at) = Unit {0}
IsOfCheck (errors.Overlap at len other other_len) = Unit {0}
IsOfCheck errors.Disk = Unit {0}
IsOfCheck errors.Memory = Unit {0}
IsOfCheck e = ⊥

-- the line of a valid file: the rows of each dataset, in the order of the names, and what the file has of all together
abbrev pub valid_text : AllSummary → List ℕ
valid_text s =
    (codes "valid rows" ++ flat_map spaced s.rows) ++ (codes " chunks" ++ spaced s.chunks) ++ (codes " blocks" ++ spaced s.blocks) ++ (codes " end" ++ spaced s.end) ++ numbers_text (codes " lost") (s.lost ∷ [])

abbrev pub check_text : Result AllSummary ErrorLine → List ℕ
check_text (Ok s) = valid_text s
check_text (Err e) = error_text e

-- An answer between two states of a disk, by the file and the datasets' names: where the disk tells its files, what this file
-- is found to be.
pub record ChecksTo (name : List ℕ) (names : List (List ℕ)) (v w : DiskView) (answer : Result AllSummary ErrorLine) : Type 0 where
  pub disk : LeavesFiles v.told v w
  pub exact : IfSome v.told (λ d. IsGivenBy (check_of names (file d name)) answer)
  pub kinds : IfErr answer IsOfCheck
  pub cause : answer ≡ Err errors.Disk → Rose v.faults w.faults

-- how a check ends
abbrev pub CheckEnds : List ℕ → List (List ℕ) → DiskView → DiskView → Status → SinkView → SinkView → Type 0
CheckEnds name names v w status k l = EndsBy {A = AllSummary} (λ answer text. ChecksTo name names v w answer × (text ≡ check_text answer)) status k l
