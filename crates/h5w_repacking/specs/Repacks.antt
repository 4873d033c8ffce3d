-- What the writing of datasets into a new file tells, and what it leaves.
use Rattle.std.specs.Prelude.{◌≡◌, ◌⊎◌, ℕ, ◌^◌, ◌<◌, ◌==◌, Bool, not, length, List, [], ◌∷◌, ◌++◌, codes, count_by, flat_map, map, if◌then◌else◌, Option, Some, None, IfOk, IfSome, OnOk, Result, Ok, Err, option_map}
use Rattle.std.specs.FinMap as finite
use Rattle.std.specs.List.{All}
use Rattle.h5w_model.specs.Causes.{Rose}
use Rattle.h5w_model.specs.Findings.{AllFinds, found, overlap}
use Rattle.h5w_model.specs.Tables.{Reading}
use Rattle.h5w_model.specs.Tiles.{TileFields}
use Rattle.h5w_model.specs.declared.piece.Write.{Write}
use Rattle.h5w_model.specs.declared.refusal.ReadError.TheVariants.{NotSwmr}
use Rattle.h5w_image.specs.View.{DiskState, DiskView, IsThere, file}
use Rattle.h5w_space.specs.declared.Full.{Full}
use Rattle.h5w_cache.specs.declared.plan.PlanError.{PlanError}
use Rattle.h5w_cache.specs.declared.plan.PlanError.TheVariants as plans
use Rattle.h5w_text.specs.Errors.{error_text}
use Rattle.h5w_text.specs.Replies.{spaced}
use Rattle.h5w_text.specs.Streams.{SinkView}
use Rattle.h5w_text.specs.Table.{numbers_text}
use Rattle.h5w_text.specs.declared.error.ErrorLine.{ErrorLine}
use Rattle.h5w_text.specs.declared.error.ErrorLine.TheVariants as errors
use Rattle.h5w_text.specs.declared.status.Status.{Status}
use Rattle.h5w_text.specs.declared.status.Status.TheVariants as statuses
use Rattle.h5w_files.specs.Images.{LeavesFiles, told_bytes}
use Rattle.h5w_files.specs.Ends.{EndsBy}
use Rattle.std.specs.Global.{Vec}
use Rattle.h5w_packing.specs.Jobs.{IsPrepared, PackingView, writes_of}
use Rattle.h5w_packing.specs.Plans.{IsOut, IsPlanned, wanted_of}
use Rattle.h5w_packing.specs.declared.source.Source.{Source}
use Rattle.h5w_packing.specs.declared.job.Job.{Job}
use Rattle.h5w_survey.specs.Surveys.{IsClosedFile, IsOpenFile, IsSurvey, IsSurveyOf}
use Rattle.h5w_survey.specs.declared.error.SurveyError.{SurveyError}
use Rattle.h5w_survey.specs.declared.error.SurveyError.TheVariants as surveys
use Rattle.h5w_repack.specs.Copies.{AreBehind, IsInside, put_each}
use Rattle.h5w_repack.specs.Packed.{IsNoFile, IsOutOf, IsPacked}
use Rattle.h5w_repack.specs.declared.error.CopyError.{CopyError}
use Rattle.h5w_repack.specs.declared.error.CopyError.TheVariants as copies

-- ---- Its lines

-- flags are told as a reader tells them
abbrev pub line_of_survey : SurveyError → ErrorLine
line_of_survey (surveys.Finding kind at) = errors.Finding kind at
line_of_survey (surveys.Overlap at len other other_len) = errors.Overlap at len other other_len
line_of_survey (surveys.Flags flags) = errors.Read (NotSwmr flags)
line_of_survey surveys.Failed = errors.Disk
line_of_survey surveys.OutOfMemory = errors.Memory

abbrev pub line_of_plan : PlanError → ErrorLine
line_of_plan (plans.Full full) = errors.FullSpace full.at full.size full.limit
line_of_plan plans.OutOfMemory = errors.Memory

abbrev pub line_of_copy : CopyError → ErrorLine
line_of_copy copies.From = errors.Disk
line_of_copy copies.To = errors.Disk
line_of_copy copies.OutOfMemory = errors.Memory

-- ---- What is told

abbrev pub range_text : TileFields → List ℕ
range_text t = numbers_text (codes "range") (t.place ∷ t.len ∷ t.kind ∷ [])

abbrev pub ranges_text : List TileFields → List ℕ
ranges_text ts = flat_map range_text ts

-- the kind of the range of a chunk
abbrev pub is_chunk : TileFields → Bool
is_chunk t = t.kind == 8

-- where the file ends, and how many blocks and chunks it has
abbrev pub end_text : ℕ → List TileFields → List ℕ
end_text end ts = (codes "repack end" ++ spaced end) ++ (codes " blocks" ++ spaced (count_by (λ t. not (is_chunk t)) ts)) ++ numbers_text (codes " chunks") (count_by is_chunk ts ∷ [])

abbrev pub packed_text : Bool → ℕ → List TileFields → List ℕ
packed_text ranges end ts = (if ranges then ranges_text ts else []) ++ end_text end ts

-- the new file, by its end and its ranges
pub record PackedFile : Type 0 where
  pub end : ℕ
  pub ranges : List TileFields

abbrev pub repack_text : Bool → Result PackedFile ErrorLine → List ℕ
repack_text ranges (Ok p) = packed_text ranges p.end p.ranges
repack_text ranges (Err e) = error_text e

-- ---- What is left of the disk

-- with a new file of this name and these bytes, and of each of its puts how many faults stood before it
abbrev pub with_new : List ℕ → List ℕ → List ℕ → DiskState → DiskState
with_new name bytes counts d = record d { files = finite.insert d.files name bytes; puts = d.puts ++ counts }

-- The file was not there, and now it is, with these bytes.
pub record HasNew (name bytes : List ℕ) (v w : DiskView) : Type 0 where
  pub counts : List ℕ
  pub missing : IfSome v.told (λ d. file d name ≡ None)
  pub disk : LeavesFiles (option_map (with_new name bytes counts) v.told) v w

-- a new file with some bytes, in which no reader finds a file
pub record HasUnborn (name : List ℕ) (v w : DiskView) : Type 0 where
  pub bytes : List ℕ
  pub new : HasNew name bytes v w
  pub unborn : IsNoFile bytes

-- the bytes of a source are there, and this is so of them
abbrev pub OfBytes : Option (List ℕ) → (List ℕ → Type 0) → Type 0
OfBytes None P = ⊥
OfBytes (Some img) P = P img

-- The new file is what packs the source, and ends where it is said.
pub record HasPacked (file_name : List ℕ) (names : List (List ℕ)) (limit : ℕ) (to : List ℕ) (p : PackedFile) (v w : DiskView) : Type 0 where
  pub bytes : List ℕ
  pub new : HasNew to bytes v w
  pub packed : IfSome v.told (λ d. OfBytes (file d file_name) (λ img. IsPacked img names limit p.ranges bytes × (p.end ≡ length bytes)))

-- With an error: nothing changed where the source is refused or the new file's name is taken; an empty new file where there is no space; where
-- the disk failed, or memory is wanting, nothing changed, or the new file is no file yet. There is no other error.
abbrev pub ErrorLeaves : (to : List ℕ) → DiskView → DiskView → ErrorLine → Type 0
ErrorLeaves to v w errors.Missing = LeavesFiles v.told v w
ErrorLeaves to v w (errors.Finding kind at) = LeavesFiles v.told v w
ErrorLeaves to v w (errors.Overlap at len other other_len) = LeavesFiles v.told v w
ErrorLeaves to v w (errors.Read e) = LeavesFiles v.told v w
ErrorLeaves to v w errors.Exists = LeavesFiles v.told v w
ErrorLeaves to v w (errors.FullSpace at size most) = HasNew to [] v w
ErrorLeaves to v w errors.Disk = LeavesFiles v.told v w ⊎ HasUnborn to v w
ErrorLeaves to v w errors.Memory = LeavesFiles v.told v w ⊎ HasUnborn to v w
ErrorLeaves to v w e = ⊥

-- by the answer: the new file, or what its error leaves
abbrev pub RepackLeaves : List ℕ → List (List ℕ) → ℕ → List ℕ → DiskView → DiskView → Result PackedFile ErrorLine → Type 0
RepackLeaves file_name names limit to v w (Ok p) = HasPacked file_name names limit to p v w
RepackLeaves file_name names limit to v w (Err e) = ErrorLeaves to v w e

-- ---- Its answer

-- Why, by the bytes of the source and those of what has the new file's name: the first reason in the order tried. `Closed` says of the source
-- that nothing is wrong with it, and `Out` that a range of the new file would end past the limit.
abbrev pub RefusedFor : List (List ℕ) → (Closed : List ℕ → Type 0) → (Out : Full → List ℕ → Type 0) → (source target : Option (List ℕ)) → ErrorLine → Type 0
RefusedFor names Closed Out source target errors.Missing = source ≡ None
RefusedFor names Closed Out source target (errors.Finding kind at) = OfBytes source (λ img. AllFinds img names (found kind at))
RefusedFor names Closed Out source target (errors.Overlap at len other other_len) = OfBytes source (λ img. AllFinds img names (overlap at len other other_len))
RefusedFor names Closed Out source target (errors.Read (NotSwmr flags)) = OfBytes source (λ img. IsOpenFile img names flags)
RefusedFor names Closed Out source target errors.Exists = OfBytes target (λ b. OfBytes source Closed)
RefusedFor names Closed Out source target (errors.FullSpace at size most) = (target ≡ None) × OfBytes source (Out (record { at = at; size = size; limit = most }))
RefusedFor names Closed Out source target errors.Disk = Unit {0}
RefusedFor names Closed Out source target errors.Memory = Unit {0}
RefusedFor names Closed Out source target e = ⊥

abbrev pub RefusedBy : List (List ℕ) → ℕ → Option (List ℕ) → Option (List ℕ) → ErrorLine → Type 0
RefusedBy names limit source target e = RefusedFor names (λ img. (s : List Source) × IsSurveyOf img names s) (λ full img. IsOutOf img names limit full) source target e

abbrev pub AnsweredBy : List (List ℕ) → ℕ → Option (List ℕ) → Option (List ℕ) → Result PackedFile ErrorLine → Type 0
AnsweredBy names limit source target (Ok p) = target ≡ None
AnsweredBy names limit source target (Err e) = RefusedBy names limit source target e

-- An answer between two states of a disk.
pub record RepacksTo (file_name to : List ℕ) (names : List (List ℕ)) (limit : ℕ) (v w : DiskView) (answer : Result PackedFile ErrorLine) : Type 0 where
  pub leaves : RepackLeaves file_name names limit to v w answer
  pub exact : IfSome v.told (λ d. AnsweredBy names limit (file d file_name) (file d to) answer)
  pub cause : answer ≡ Err errors.Disk → Rose v.faults w.faults

-- how the writing of a dataset into a new file ends
abbrev pub RepackEnds : List ℕ → List ℕ → List (List ℕ) → ℕ → Bool → DiskView → DiskView → Status → SinkView → SinkView → Type 0
RepackEnds file_name to names limit ranges v w status k l =
    EndsBy {A = PackedFile} (λ answer text. RepacksTo file_name to names limit v w answer × (text ≡ repack_text ranges answer)) status k l

-- ---- Its steps

-- what a survey of the source's bytes answers
abbrev pub SurveyedBy : List (List ℕ) → Option (List ℕ) → Result (Vec Source) ErrorLine → Type 0
SurveyedBy names source (Ok s) = OfBytes source (λ img. IsSurveyOf img names s.items × (length img < 2 ^ 64))
SurveyedBy names source (Err errors.Missing) = source ≡ None
SurveyedBy names source (Err (errors.Finding kind at)) = OfBytes source (λ img. AllFinds img names (found kind at))
SurveyedBy names source (Err (errors.Overlap at len other other_len)) = OfBytes source (λ img. AllFinds img names (overlap at len other other_len))
SurveyedBy names source (Err (errors.Read (NotSwmr flags))) = OfBytes source (λ img. IsOpenFile img names flags)
SurveyedBy names source (Err errors.Disk) = Unit {0}
SurveyedBy names source (Err errors.Memory) = Unit {0}
SurveyedBy names source (Err e) = ⊥

-- a survey, or one of its errors
abbrev pub IsOfSurvey : Result (Vec Source) ErrorLine → Type 0
IsOfSurvey (Ok s) = Unit {0}
IsOfSurvey (Err errors.Missing) = Unit {0}
IsOfSurvey (Err (errors.Finding kind at)) = Unit {0}
IsOfSurvey (Err (errors.Overlap at len other other_len)) = Unit {0}
IsOfSurvey (Err (errors.Read (NotSwmr flags))) = Unit {0}
IsOfSurvey (Err errors.Disk) = Unit {0}
IsOfSurvey (Err errors.Memory) = Unit {0}
IsOfSurvey (Err e) = ⊥

pub record SurveysTo (file_name : List ℕ) (names : List (List ℕ)) (v w : DiskView) (answer : Result (Vec Source) ErrorLine) : Type 0 where
  pub disk : LeavesFiles v.told v w
  pub there : OnOk answer (IsThere w file_name)
  pub sound : IfOk answer (λ s. IsSurvey names s.items)
  pub kinds : IsOfSurvey answer
  pub exact : IfSome v.told (λ d. SurveyedBy names (file d file_name) answer)
  pub cause : answer ≡ Err errors.Disk → Rose v.faults w.faults

-- the new file is made, or its name is taken
abbrev pub MadeBy : List ℕ → DiskView → DiskView → Result (Unit {0}) ErrorLine → Type 0
MadeBy to v w (Ok a) = HasNew to [] v w × IsThere w to
MadeBy to v w (Err errors.Exists) = LeavesFiles v.told v w × IfSome v.told (λ d. OfBytes (file d to) (λ b. Unit {0}))
MadeBy to v w (Err errors.Disk) = LeavesFiles v.told v w × Rose v.faults w.faults
MadeBy to v w (Err errors.Memory) = LeavesFiles v.told v w
MadeBy to v w (Err e) = ⊥

abbrev pub MakesNew : List ℕ → DiskView → DiskView → Result (Unit {0}) ErrorLine → Type 0
MakesNew to v w answer = MadeBy to v w answer

-- Pieces were put into the new file, one after another, and nothing else was done to the disk.
pub record HasPut (to : List ℕ) (ws : List Write) (v w : DiskView) : Type 0 where
  pub puts : List (Write × ℕ)
  pub are : map (λ (p : Write × ℕ). p.0) puts ≡ ws
  pub disk : LeavesFiles (option_map (put_each to puts) v.told) v w

-- all that is left of a plan was put: where the disk tells the source's bytes, and all that is copied stands in them, it is what the plan says
pub record HasCopied (file_name to : List ℕ) (left : List Job) (v w : DiskView) : Type 0 where
  pub writes : List Write
  pub put : HasPut to writes v w
  pub are : (img : List ℕ) → told_bytes v.told file_name ≡ Some img → length img < 2 ^ 64 → All (IsInside img) left → writes ≡ writes_of img left

-- some was put, behind the superblock's place
pub record HasSome (to : List ℕ) (v w : DiskView) : Type 0 where
  pub writes : List Write
  pub behind : AreBehind writes
  pub put : HasPut to writes v w

abbrev pub CopiesTo : List ℕ → List ℕ → List Job → DiskView → DiskView → Result (Unit {0}) ErrorLine → Type 0
CopiesTo file_name to left v w (Ok a) = HasCopied file_name to left v w
CopiesTo file_name to left v w (Err errors.Disk) = HasSome to v w × Rose v.faults w.faults
CopiesTo file_name to left v w (Err errors.Memory) = LeavesFiles v.told v w
CopiesTo file_name to left v w (Err e) = ⊥

-- a plan of what was surveyed, or the first range that has no place
abbrev pub PlansTo : List Source → ℕ → Result PackingView ErrorLine → Type 0
PlansTo s limit (Ok p) = IsPlanned (map wanted_of s) limit p × IsPrepared p
PlansTo s limit (Err (errors.FullSpace at size most)) = IsOut (map wanted_of s) limit (record { at = at; size = size; limit = most })
PlansTo s limit (Err errors.Memory) = Unit {0}
PlansTo s limit (Err e) = ⊥

-- A plan of what was surveyed was put into the new file, and this is told of it.
pub record HasWritten (file_name to : List ℕ) (limit : ℕ) (ranges : Bool) (s : List Source) (v w : DiskView) (text : List ℕ) : Type 0 where
  pub plan : PackingView
  pub planned : IsPlanned (map wanted_of s) limit plan
  pub copied : HasCopied file_name to plan.left v w
  pub text_is : text ≡ packed_text ranges plan.end plan.ranges

-- from a new file without bytes on
abbrev pub WritesTo : List ℕ → List ℕ → ℕ → Bool → List Source → DiskView → DiskView → List ℕ → Result (Unit {0}) ErrorLine → Type 0
WritesTo file_name to limit ranges s v w text (Ok a) = HasWritten file_name to limit ranges s v w text
WritesTo file_name to limit ranges s v w text (Err (errors.FullSpace at size most)) =
    LeavesFiles v.told v w × IsOut (map wanted_of s) limit (record { at = at; size = size; limit = most })
WritesTo file_name to limit ranges s v w text (Err errors.Disk) = HasSome to v w × Rose v.faults w.faults
WritesTo file_name to limit ranges s v w text (Err errors.Memory) = LeavesFiles v.told v w
WritesTo file_name to limit ranges s v w text (Err e) = ⊥

-- The new file was made, and then filled.
pub record HasPackedNew (file_name to : List ℕ) (limit : ℕ) (ranges : Bool) (s : List Source) (v w : DiskView) (text : List ℕ) : Type 0 where
  pub between : DiskView
  pub new : HasNew to [] v between
  pub written : HasWritten file_name to limit ranges s between w text

-- from before the new file on
abbrev pub PacksTo : List ℕ → List ℕ → ℕ → Bool → List Source → DiskView → DiskView → List ℕ → Result (Unit {0}) ErrorLine → Type 0
PacksTo file_name to limit ranges s v w text (Ok a) = HasPackedNew file_name to limit ranges s v w text
PacksTo file_name to limit ranges s v w text (Err errors.Exists) = LeavesFiles v.told v w × IfSome v.told (λ d. OfBytes (file d to) (λ b. Unit {0}))
PacksTo file_name to limit ranges s v w text (Err (errors.FullSpace at size most)) =
    HasNew to [] v w × IsOut (map wanted_of s) limit (record { at = at; size = size; limit = most })
PacksTo file_name to limit ranges s v w text (Err errors.Disk) = (LeavesFiles v.told v w ⊎ HasUnborn to v w) × Rose v.faults w.faults
PacksTo file_name to limit ranges s v w text (Err errors.Memory) = LeavesFiles v.told v w ⊎ HasUnborn to v w
PacksTo file_name to limit ranges s v w text (Err e) = ⊥

-- a new file, and what is told of it
pub record HasRepacked (file_name to : List ℕ) (names : List (List ℕ)) (limit : ℕ) (ranges : Bool) (v w : DiskView) (text : List ℕ) : Type 0 where
  pub new_file : PackedFile
  pub done : RepacksTo file_name to names limit v w (Ok new_file)
  pub text_is : text ≡ packed_text ranges new_file.end new_file.ranges

abbrev pub RepackedTo : List ℕ → List ℕ → List (List ℕ) → ℕ → Bool → DiskView → DiskView → List ℕ → Result (Unit {0}) ErrorLine → Type 0
RepackedTo file_name to names limit ranges v w text (Ok a) = HasRepacked file_name to names limit ranges v w text
RepackedTo file_name to names limit ranges v w text (Err e) = RepacksTo file_name to names limit v w (Err e)

-- ---- That it ends well

-- A disk tells its files; the source is valid, nobody writes it, and nothing has the new file's name.
pub record MayRepack (file_name to : List ℕ) (names : List (List ℕ)) (v : DiskView) : Type 0 where
  pub state : DiskState
  pub told : v.told ≡ Some state
  pub source : List ℕ
  pub there : file state file_name ≡ Some source
  pub readings : List Reading
  pub closed : IsClosedFile source names readings
  pub missing : file state to ≡ None

-- Then, where neither disk nor sink failed, all is done, or memory is wanting, or the new file would pass its limit.
abbrev pub RepackEndsWell : List ℕ → List ℕ → List (List ℕ) → DiskView → DiskView → Status → SinkView → SinkView → Type 0
RepackEndsWell file_name to names v w status k l =
    MayRepack file_name to names v → (Rose v.faults w.faults → ⊥) → (Rose k.faults l.faults → ⊥) → (status ≡ statuses.Done) ⊎ (status ≡ statuses.Memory) ⊎ (status ≡ statuses.Limit)
