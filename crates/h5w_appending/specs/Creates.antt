-- What the making of a new file tells, and what it leaves.
use Rattle.std.specs.Prelude.{◌≡◌, ◌⊎◌, ℕ, ◌+◌, ◌<◌, ◌≤◌, List, [], ◌∷◌, ◌++◌, false, length, take, is_none, codes, Option, Some, None, IfSome, OnOk, Result, Ok, Err, option_map}
use Rattle.std.specs.FinMap as map
use Rattle.std.specs.List.{AllByRecursion}
use Rattle.h5w_model.specs.Causes.{Rose}
use Rattle.h5w_model.specs.Numbers.{range}
use Rattle.h5w_model.specs.Images.{image}
use Rattle.h5w_model.specs.Findings.{AllValid, Summary, Valid}
use Rattle.h5w_model.specs.Superblock.{super_at}
use Rattle.h5w_model.specs.Tables.{Reads}
use Rattle.h5w_model.specs.declared.piece.Write.{Write}
use Rattle.h5w_image.specs.View.{DiskState, DiskView, file}
use Rattle.h5w_creation_laws.specs.CreatedFiles.{CreatedFile, shape_of}
use Rattle.h5w_several_creation_laws.specs.SeveralFiles.{closed_writes, end_of, names_of, new_summary, super_of}
use Rattle.h5w_text.specs.Errors.{error_text}
use Rattle.h5w_text.specs.Streams.{SinkView}
use Rattle.h5w_text.specs.Table.{numbers_text}
use Rattle.h5w_text.specs.declared.error.ErrorLine.{ErrorLine}
use Rattle.h5w_text.specs.declared.error.ErrorLine.TheVariants as errors
use Rattle.h5w_text.specs.declared.status.Status.{Status}
use Rattle.h5w_files.specs.Images.{LeavesFiles}
use Rattle.h5w_files.specs.Ends.{IsGivenBy, EndsBy}
use Rattle.h5w_appending.specs.Puts.{AllAre, after_puts, counts_of, writes_of}
use Rattle.h5w_appending.specs.declared.creating.CreateError.{CreateError}
use Rattle.h5w_appending.specs.declared.creating.CreateError.TheVariants as refusals

-- ---- Its bytes

-- the pieces of a new file: those of its creation, and the superblock that closes it
abbrev pub new_bytes : List CreatedFile → List ℕ
new_bytes fs = image [] (closed_writes fs)

-- An empty dataset of this name, type, fill, chunks and columns, in the dimensions of its index; no finding applies to the file by its name.
pub record IsEmptyDataset (f : CreatedFile) (bytes : List ℕ) : Type 0 where
  pub summary : Summary
  pub valid : Valid bytes f.name summary
  pub reads : Reads bytes f.name 0 f.columns []
  pub shape : reads.shown.dataset.shape ≡ shape_of f
  pub int_type : reads.shown.dataset.int_type ≡ f.int_type
  pub fill : reads.shown.dataset.fill ≡ f.fill
  pub index : reads.shown.dataset.layout.index ≡ f.index
  pub chunk_rows : reads.shown.dataset.layout.chunk_rows ≡ f.chunk_rows
  pub chunk_columns : reads.shown.dataset.layout.chunk_cols ≡ f.chunk_cols

-- A file that nobody writes, in which each of these is an empty dataset; no finding applies to all of their names together.
pub record AreEmptyDatasets (fs : List CreatedFile) (bytes : List ℕ) : Type 0 where
  pub each : AllByRecursion (λ f. IsEmptyDataset f bytes) fs
  pub valid : AllValid bytes (names_of fs) (new_summary fs)
  pub super : super_at (range bytes 0 48) ≡ Ok (super_of 0 fs)
  pub size : length bytes ≡ end_of fs

-- ---- What is left of the disk

-- with a new file of this name and these bytes, and of each of its puts how many faults stood before it
abbrev pub with_new : List ℕ → List ℕ → List ℕ → DiskState → DiskState
with_new name bytes counts d = record d { files = map.insert d.files name bytes; puts = d.puts ++ counts }

-- The file was not there, and now it is, with the first n pieces of a new file, each put before the disk failed.
pub record HasPut (name : List ℕ) (ws : List Write) (n : ℕ) (v w : DiskView) : Type 0 where
  pub counts : List ℕ
  pub count : length counts ≡ n
  pub missing : IfSome v.told (λ d. file d name ≡ None)
  pub disk : LeavesFiles (option_map (with_new name (image [] (take n ws)) counts) v.told) v w
  pub since : AllAre v.faults counts

-- So many pieces were put and no more, since the disk failed then.
pub record HasFailed (name : List ℕ) (ws : List Write) (v w : DiskView) : Type 0 where
  pub pieces : ℕ
  pub few : pieces < length ws
  pub before : HasPut name ws pieces v w

-- By the answer: with the file's end it has all pieces; where something has the name nothing changed; where the disk failed
-- nothing changed, or some of the pieces are missing; without memory nothing changed, or the file has no bytes. There is no other answer.
abbrev pub CreateLeaves : List ℕ → List Write → DiskView → DiskView → Result ℕ ErrorLine → Type 0
CreateLeaves name ws v w (Ok end) = HasPut name ws (length ws) v w
CreateLeaves name ws v w (Err errors.Exists) = LeavesFiles v.told v w
CreateLeaves name ws v w (Err errors.Disk) = LeavesFiles v.told v w ⊎ HasFailed name ws v w
CreateLeaves name ws v w (Err errors.Memory) = LeavesFiles v.told v w ⊎ HasPut name ws 0 v w
CreateLeaves name ws v w (Err e) = ⊥

-- ---- Its answer

-- the end of the new file, unless something has the name
abbrev pub end_given : ℕ → Option (List ℕ) → Result ℕ ErrorLine
end_given end None = Ok end
end_given end (Some bytes) = Err errors.Exists

abbrev pub create_text : Result ℕ ErrorLine → List ℕ
create_text (Ok end) = numbers_text (codes "new end") (end ∷ [])
create_text (Err e) = error_text e

-- An answer between two states of a disk, which did not fail where it is no error.
pub record CreatesTo (name : List ℕ) (fs : List CreatedFile) (v w : DiskView) (answer : Result ℕ ErrorLine) : Type 0 where
  pub leaves : CreateLeaves name (closed_writes fs) v w answer
  pub exact : IfSome v.told (λ d. IsGivenBy (end_given (end_of fs) (file d name)) answer)
  pub cause : answer ≡ Err errors.Disk → Rose v.faults w.faults
  pub calm : OnOk answer (w.faults ≡ v.faults)
  pub new : OnOk answer (AreEmptyDatasets fs (new_bytes fs))

-- how the making of a file with these datasets ends
abbrev pub CreateEnds : List ℕ → List CreatedFile → DiskView → DiskView → Status → SinkView → SinkView → Type 0
CreateEnds name fs v w status k l = EndsBy {A = ℕ} (λ answer text. CreatesTo name fs v w answer × (text ≡ create_text answer)) status k l

-- the line of a refusal
abbrev pub create_line : CreateError → ErrorLine
create_line refusals.Exists = errors.Exists
create_line refusals.Failed = errors.Disk
create_line refusals.OutOfMemory = errors.Memory

-- an answer by the file's end
abbrev pub answer_of : ℕ → Result (Unit {0}) CreateError → Result ℕ ErrorLine
answer_of end (Ok a) = Ok end
answer_of end (Err e) = Err (create_line e)

-- ---- Pieces that are put into the file

-- All of these pieces but those that are left were put into it, one after another, each before the disk failed.
pub record PutsUpTo (name : List ℕ) (ws left : List Write) (v w : DiskView) : Type 0 where
  pub puts : List (Write × ℕ)
  pub pieces : ws ≡ writes_of puts ++ left
  pub disk : LeavesFiles (option_map (after_puts name puts) v.told) v w
  pub since : AllAre v.faults (counts_of puts)
  pub room : v.pieces ≤ w.pieces + length puts
  pub ends : v.end name ≤ w.end name

-- And then the disk failed at one of them.
pub record PutsFew (name : List ℕ) (ws : List Write) (v w : DiskView) : Type 0 where
  pub left : List Write
  pub some : 1 ≤ length left
  pub before : PutsUpTo name ws left v w
  pub rose : Rose v.faults w.faults

-- why not all were put
abbrev pub FillsFew : List ℕ → List Write → DiskView → DiskView → CreateError → Type 0
FillsFew name ws v w refusals.Exists = ⊥
FillsFew name ws v w refusals.Failed = PutsFew name ws v w
FillsFew name ws v w refusals.OutOfMemory = LeavesFiles v.told v w

-- what is left of the disk by what the making of a file answers
abbrev pub Makes : List ℕ → List Write → DiskView → DiskView → Result (Unit {0}) CreateError → Type 0
Makes name ws v w (Ok a) = HasPut name ws (length ws) v w × (w.faults ≡ v.faults)
Makes name ws v w (Err refusals.Exists) = LeavesFiles v.told v w × IfSome v.told (λ d. false ≡ is_none (file d name))
Makes name ws v w (Err refusals.Failed) = (LeavesFiles v.told v w ⊎ HasFailed name ws v w) × Rose v.faults w.faults
Makes name ws v w (Err refusals.OutOfMemory) = LeavesFiles v.told v w ⊎ HasPut name ws 0 v w
