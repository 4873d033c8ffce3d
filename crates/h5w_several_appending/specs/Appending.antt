-- What the calls of an append to several datasets do, one by one.
use Rattle.std.specs.Prelude.{◌≡◌, ◌⊎◌, ℕ, ◌+◌, ◌≤◌, false, List, [], ◌∷◌, length, map, slice_get, Some, None, OnOk, Result, Ok, Err, ℤ}
use Rattle.h5w_model.specs.Causes.{Rose}
use Rattle.h5w_model.specs.Findings.{AllSummary, AllValid}
use Rattle.h5w_model.specs.Lawful.{first_outside}
use Rattle.h5w_model.specs.Relations.{AllPaired}
use Rattle.h5w_model.specs.Several.{Begun, FileLog, appends_to, plans_each}
use Rattle.h5w_image.specs.View.{DiskView, IsThere}
use Rattle.h5w_space.specs.declared.Full.{Full}
use Rattle.h5w_writer.specs.Refusals.{append_refusal}
use Rattle.h5w_writer.specs.Sessions.{Session, rows_of}
use Rattle.h5w_writer.specs.declared.refusal.AppendError.TheVariants as append_errors
use Rattle.h5w_text.specs.Streams.{SourceView, SinkView, Gave}
use Rattle.h5w_text.specs.declared.error.ErrorLine.{ErrorLine}
use Rattle.h5w_text.specs.declared.error.ErrorLine.TheVariants as errors
use Rattle.h5w_files.specs.Images.{LeavesFiles, told_bytes}
use Rattle.h5w_batches.specs.declared.error.BatchError.{BatchError}
use Rattle.h5w_batches.specs.declared.error.BatchError.TheVariants as batch_errors
use Rattle.h5w_appending.specs.Puts.{AllAre, counts_of}
use Rattle.h5w_several_open.specs.Begins.{ReadsIt}
use Rattle.h5w_several_open.specs.Beginnings.{HaveBegunBy, IsBegunAll}
use Rattle.h5w_several_open.specs.declared.beginning.Beginning.{Beginning}
use Rattle.h5w_several_open.specs.Stands.{opened_file}
use Rattle.h5w_several_writer.specs.Flows.{PlansAll, all_waits}
use Rattle.h5w_several_writer.specs.Refusals.{NoPlaceAll}
use Rattle.h5w_several_writer_laws.specs.Sessions.{AppendsTo, SameButHeld, Sessions, all_pending, counts_of as pieces_of, keeping, stopped_all}
use Rattle.h5w_several_writer_laws.specs.Standing.{StandsAll, and_then}
use Rattle.h5w_several_batches.specs.SetLines.{set_line_of, used_after}
use Rattle.h5w_several_batches.specs.SetInputs.{SaysAll}
use Rattle.h5w_several_batches.specs.declared.line.SetLine.{SetLine}
use Rattle.h5w_several_batches.specs.declared.line.SetLine.TheVariants.{Numbers}
use Rattle.h5w_several_appending.specs.Taken.{AreTaken, SetBatches, after_said, after_values, close_each, closed_line, columns_of, no_sets, rows_with, told_text}
use Rattle.h5w_several_appending.specs.Puts.{PutsPieces}
use Rattle.h5w_several_appending.specs.Stores.{Broke, ClosedUp, Stored, datasets_of}
use Rattle.h5w_several_appending.specs.Tells.{IsWhyBy, StopsAtLine, Unopened, all_batches}
use Rattle.h5w_several_appending.specs.declared.batching.Ending.{Ending}
use Rattle.h5w_several_appending.specs.declared.batching.Ending.TheVariants as endings

-- The session runs and has nothing pending, and the file has room for the piece that closes it.
pub record IsReady (name : List ℕ) (S : Sessions) (v : DiskView) : Type 0 where
  pub there : IsThere v name
  pub running : S.stopped ≡ false
  pub idle : all_pending S.parts ≡ []
  pub room : 1 ≤ v.pieces
  pub end : S.places.end ≤ v.end name

-- ---- The session's calls

-- why values are not appended to a dataset
pub data ValuesRefused (line d : ℕ) (S : Sessions) (values : List ℤ) : ErrorLine → Type 0 where
  out_of_range : (s : Session) (i : ℕ) (x : ℤ) → slice_get S.parts d ≡ Some s → first_outside s.dataset.int_type 0 values ≡ Some (i, x) → ValuesRefused line d S values (errors.Range line i x)
  too_many : (s : Session) (chunks limit : ℕ) → slice_get S.parts d ≡ Some s → append_refusal s values ≡ Some (append_errors.Chunks chunks limit) → ValuesRefused line d S values (errors.FullChunks chunks limit)
  no_memory : ValuesRefused line d S values errors.Memory

-- the session was stopped
pub record Halted (S T : Sessions) : Type 0 where
  pub session : T ≡ stopped_all S
  pub stands : (log : FileLog) → StandsAll S log → StandsAll T log

-- The values were appended, and there is room for one piece more.
pub record AppendsAll (name : List ℕ) (d : ℕ) (S T : Sessions) (values : List ℤ) (w : DiskView) : Type 0 where
  pub added : AppendsTo d values S T
  pub stands : (log : FileLog) → StandsAll S log → StandsAll T (and_then (appends_to d values) log)
  pub room : 1 ≤ w.pieces
  pub end : T.places.end ≤ w.end name

abbrev pub AppendsBy : List ℕ → ℕ → ℕ → List ℤ → Sessions → Sessions → DiskView → DiskView → Result (Unit {0}) Ending → Type 0
AppendsBy name line d values S T v w (Ok a) = AppendsAll name d S T values w
AppendsBy name line d values S T v w (Err (endings.Refused e)) = (T ≡ S) × ValuesRefused line d S values e
AppendsBy name line d values S T v w (Err endings.Disk) = Halted S T × Rose v.faults w.faults
AppendsBy name line d values S T v w (Err endings.Sink) = ⊥

-- why a batch is not flushed
pub data FlushRefused (S : Sessions) : ErrorLine → Type 0 where
  no_place : (full : Full) → ((log : FileLog) → StandsAll S log → NoPlaceAll S log full) → FlushRefused S (errors.FullSpace full.at full.size full.limit)
  no_depth : FlushRefused S errors.Deep
  wanting : FlushRefused S errors.Memory

-- no row waited, and nothing is another
pub record HasNone (S T : Sessions) : Type 0 where
  pub waits : all_waits S.parts ≡ 0
  pub same : T ≡ S

-- the pieces of the rows that waited are pending, and there is room for them and one more
pub record Planned (name : List ℕ) (S T : Sessions) (w : DiskView) : Type 0 where
  pub waits : 1 ≤ all_waits S.parts
  pub plans : PlansAll S T
  pub some : 1 ≤ length (all_pending T.parts)
  pub stands : (log : FileLog) → StandsAll S log → StandsAll T (and_then (plans_each (pieces_of T.parts)) log)
  pub room : length (all_pending T.parts) + 1 ≤ w.pieces
  pub end : T.places.end ≤ w.end name

-- the session as it was, but for blocks of indexes that are held
pub record Unflushed (S T : Sessions) : Type 0 where
  pub same : SameButHeld S T
  pub stands : (log : FileLog) → StandsAll S log → StandsAll T log

abbrev pub FlushesBy : List ℕ → Sessions → Sessions → DiskView → DiskView → Result (Unit {0}) Ending → Type 0
FlushesBy name S T v w (Ok a) = HasNone S T ⊎ Planned name S T w
FlushesBy name S T v w (Err (endings.Refused e)) = Unflushed S T × FlushRefused S e
FlushesBy name S T v w (Err endings.Disk) = (middle : Sessions) × Unflushed S middle × Halted middle T × Rose v.faults w.faults
FlushesBy name S T v w (Err endings.Sink) = ⊥

-- All pending pieces were put, and the disk failed so often and no more.
pub record PutsAll (faults : ℕ) (name : List ℕ) (S T : Sessions) (v w : DiskView) : Type 0 where
  pub puts : PutsPieces name S T v w
  pub all : all_pending T.parts ≡ []
  pub before : v.faults ≡ faults
  pub calm : w.faults ≡ faults

-- The disk failed once more than so often, before all of them were put, and the session was stopped.
pub record PutsHalted (faults : ℕ) (name : List ℕ) (S T : Sessions) (v w : DiskView) : Type 0 where
  pub middle : Sessions
  pub puts : PutsPieces name S middle v w
  pub since : AllAre faults (counts_of puts.puts)
  pub rose : faults ≤ v.faults → Rose faults w.faults
  pub halted : Halted middle T

abbrev pub PutsBy : ℕ → List ℕ → Sessions → Sessions → DiskView → DiskView → Result (Unit {0}) Ending → Type 0
PutsBy faults name S T v w (Ok a) = PutsAll faults name S T v w
PutsBy faults name S T v w (Err (endings.Refused e)) = ⊥
PutsBy faults name S T v w (Err endings.Disk) = PutsHalted faults name S T v w
PutsBy faults name S T v w (Err endings.Sink) = ⊥

-- ---- Batches

-- the session can go on, but where the disk failed
abbrev pub ReadyUnlessDisk : {A : Type 0} → List ℕ → Sessions → DiskView → Result A Ending → Type 0
ReadyUnlessDisk name T w (Ok a) = IsReady name T w
ReadyUnlessDisk name T w (Err (endings.Refused e)) = IsReady name T w
ReadyUnlessDisk name T w (Err endings.Disk) = Unit {0}
ReadyUnlessDisk name T w (Err endings.Sink) = IsReady name T w

-- these batches were stored, and their lines were written
pub record Told (name : List ℕ) (first T : Sessions) (b : SetBatches) (u w : DiskView) (k l : SinkView) : Type 0 where
  pub stored : Stored name first T b u w
  pub gave : Gave (told_text b.told) k l

-- they were stored, and the sink failed at the line of the last
pub record HalfTold (name : List ℕ) (first T : Sessions) (b : SetBatches) (u w : DiskView) (k l : SinkView) : Type 0 where
  pub stored : Stored name first T b u w
  pub stops : StopsAtLine b k l

-- the disk failed behind them, and their lines were written
pub record BrokeTold (name : List ℕ) (first : Sessions) (b : SetBatches) (u w : DiskView) (k l : SinkView) : Type 0 where
  pub broke : Broke name first b u w
  pub gave : Gave (told_text b.told) k l

-- A step that leads from some batches to others, by its result; a refusal has its cause.
abbrev pub Steps : List ℕ → Sessions → Sessions → SetBatches → SetBatches → (ErrorLine → Type 0) → DiskView → DiskView → SinkView → SinkView → Result (Unit {0}) Ending → Type 0
Steps name first T b next Cause u w k l (Ok a) = Told name first T next u w k l
Steps name first T b next Cause u w k l (Err (endings.Refused e)) = Told name first T b u w k l × Cause e
Steps name first T b next Cause u w k l (Err endings.Disk) = BrokeTold name first b u w k l
Steps name first T b next Cause u w k l (Err endings.Sink) = HalfTold name first T next u w k l

-- a batch is closed, for each session that began with the first, whatever was stored before, of a disk that had failed so often
abbrev pub ClosesOn : ℕ → List ℕ → Sessions → Sessions → DiskView → DiskView → SinkView → SinkView → Result (Unit {0}) Ending → Type 0
ClosesOn faults name S T v w k l r =
    (first : Sessions) (b : SetBatches) (u : DiskView) (m : SinkView) → u.faults ≡ faults → Told name first S b u v m k → Steps name first T b (close_each (datasets_of first.parts) b) (FlushRefused S) u w m l r

-- why the values of a line are refused
abbrev pub ValuesCause : ℕ → ℕ → List ℤ → Sessions → ErrorLine → Type 0
ValuesCause used number [] S e = FlushRefused S e
ValuesCause used number (v ∷ vs) S e = ValuesRefused number used S (v ∷ vs) e

-- values of the dataset in use
abbrev pub SaysOn : ℕ → List ℕ → ℕ → ℕ → List ℤ → Sessions → Sessions → DiskView → DiskView → SinkView → SinkView → Result (Unit {0}) Ending → Type 0
SaysOn faults name used number values S T v w k l r =
    (first : Sessions) (b : SetBatches) (u : DiskView) (m : SinkView) → u.faults ≡ faults → b.used ≡ used → Told name first S b u v m k
    → Steps name first T b (after_values (datasets_of first.parts) values b) (ValuesCause used number values S) u w m l r

-- why a line is refused
pub data LineCause (columns : List ℕ) (used number : ℕ) (line : List ℕ) (S : Sessions) : ErrorLine → Type 0 where
  says_nothing : set_line_of columns used line ≡ None → LineCause columns used number line S (errors.Line number)
  not_taken : (values : List ℤ) (e : ErrorLine) → set_line_of columns used line ≡ Some (Numbers values) → ValuesCause used number values S e → LineCause columns used number line S e
  not_read : LineCause columns used number line S errors.Memory

-- a line says something, and this dataset is in use behind it
pub record IsSpelled (columns : List ℕ) (used : ℕ) (line : List ℕ) (d : ℕ) : Type 0 where
  pub said : SetLine
  pub is : set_line_of columns used line ≡ Some said
  pub used_is : d ≡ used_after used said

-- a line was taken, by its result, which says which dataset is in use then
abbrev pub TakesLine : List ℕ → List ℕ → ℕ → ℕ → List ℕ → Sessions → Sessions → Sessions → SetBatches → DiskView → DiskView → SinkView → SinkView → Result ℕ Ending → Type 0
TakesLine name columns used number line first S T b u w k l (Ok d) =
    (said : SetLine) × (set_line_of columns used line ≡ Some said) × (d ≡ used_after used said) × Told name first T (after_said (datasets_of first.parts) b said) u w k l
TakesLine name columns used number line first S T b u w k l (Err (endings.Refused e)) = Told name first T b u w k l × LineCause columns used number line S e
TakesLine name columns used number line first S T b u w k l (Err endings.Disk) = BrokeTold name first b u w k l
TakesLine name columns used number line first S T b u w k l (Err endings.Sink) =
    (said : SetLine) × (set_line_of columns used line ≡ Some said) × HalfTold name first T (after_said (datasets_of first.parts) b said) u w k l

abbrev pub LinesOn : ℕ → List ℕ → List ℕ → ℕ → ℕ → List ℕ → Sessions → Sessions → DiskView → DiskView → SinkView → SinkView → Result ℕ Ending → Type 0
LinesOn faults name columns used number line S T v w k l r =
    (first : Sessions) (b : SetBatches) (u : DiskView) (m : SinkView) → u.faults ≡ faults → b.used ≡ used → Told name first S b u v m k → TakesLine name columns used number line first S T b u w m l r

-- ---- An input

-- there was no place for the batch that was to be closed, by the session that had stored those before it
pub record NeedsPlace (name : List ℕ) (first : Sessions) (v : DiskView) (b : SetBatches) (full : Full) : Type 0 where
  pub session : Sessions
  pub before : DiskView
  pub stored : Stored name first session b v before
  pub bounds : (log : FileLog) → StandsAll session log → NoPlaceAll session log full

-- The lines of an input are appended by a session that has stored nothing yet, by their result.
abbrev pub TakesInput : List ℕ → Sessions → Sessions → SourceView → SourceView → DiskView → DiskView → SinkView → SinkView → Result (Unit {0}) Ending → Type 0
TakesInput name first T x y u w k l (Ok a) = (said : List SetLine) × SaysAll (columns_of (datasets_of first.parts)) x y said × Told name first T (all_batches (datasets_of first.parts) said) u w k l
TakesInput name first T x y u w k l (Err (endings.Refused e)) =
    (b : SetBatches) × AreTaken (datasets_of first.parts) x y b × IsWhyBy (NeedsPlace name first u) (datasets_of first.parts) x y b e × Told name first T b u w k l
TakesInput name first T x y u w k l (Err endings.Disk) = (b : SetBatches) × AreTaken (datasets_of first.parts) x y b × BrokeTold name first b u w k l
TakesInput name first T x y u w k l (Err endings.Sink) = (b : SetBatches) × AreTaken (datasets_of first.parts) x y b × HalfTold name first T b u w k l

-- whatever was stored before, of a disk that had failed so often
abbrev pub TakesInputOn : ℕ → List ℕ → Sessions → Sessions → SourceView → SourceView → DiskView → DiskView → SinkView → SinkView → Result (Unit {0}) Ending → Type 0
TakesInputOn faults name S T x y v w k l r =
    (first : Sessions) (u : DiskView) (m : SinkView) → u.faults ≡ faults → Told name first S (no_sets (datasets_of first.parts)) u v m k → TakesInput name first T x y u w m l r

-- of a session that has just begun, from each state of the disk on in which the file was as it is, and the disk had failed so often
abbrev pub TakesInputFrom : ℕ → List ℕ → Sessions → Sessions → SourceView → SourceView → DiskView → DiskView → SinkView → SinkView → Result (Unit {0}) Ending → Type 0
TakesInputFrom faults name S T x y v w k l r = (u : DiskView) → u.faults ≡ faults → LeavesFiles u.told u v → TakesInput name S T x y u w k l r

-- why an input was not read
abbrev pub refusal_of_input : BatchError → ErrorLine
refusal_of_input (batch_errors.Line n) = errors.Line n
refusal_of_input (batch_errors.Input limit) = errors.Input limit
refusal_of_input batch_errors.Source = errors.Source
refusal_of_input batch_errors.OutOfMemory = errors.Memory

-- the end of an append whose input was not read
abbrev pub ending_of : BatchError → Ending
ending_of e = endings.Refused (refusal_of_input e)

-- ---- A file

-- The session has just begun over the file, which has room for what is pending and the piece that closes it.
pub record IsBegun (name : List ℕ) (S : Sessions) (v : DiskView) : Type 0 where
  pub there : IsThere v name
  pub running : S.stopped ≡ false
  pub some : 1 ≤ length S.parts
  pub waits : all_waits S.parts ≡ 0
  pub room : length (all_pending S.parts) + 1 ≤ v.pieces
  pub end : S.places.end ≤ v.end name

-- the session was closed, or the disk failed more often than so
abbrev pub ClosesBy : ℕ → List ℕ → Sessions → DiskView → DiskView → Result (Unit {0}) Ending → Type 0
ClosesBy faults name S v w (Ok a) = (first : Sessions) (b : SetBatches) (u : DiskView) → u.faults ≡ faults → Stored name first S b u v → ClosedUp name first b u w
ClosesBy faults name S v w (Err endings.Disk) = (first : Sessions) (b : SetBatches) (u : DiskView) → u.faults ≡ faults → Stored name first S b u v → Broke name first b u w
ClosesBy faults name S v w (Err e) = ⊥

-- What is left of an append once the session, whose datasets had so many rows, was closed, by the result of it all.
abbrev pub Settles : List ℕ → List ℕ → Sessions → SourceView → SourceView → DiskView → DiskView → SinkView → SinkView → Result (Unit {0}) Ending → Type 0
Settles name rows first x y u w k l (Ok a) =
    (said : List SetLine) × SaysAll (columns_of (datasets_of first.parts)) x y said × ClosedUp name first (all_batches (datasets_of first.parts) said) u w × Gave (told_text (all_batches (datasets_of first.parts) said).told) k l
    × (rows ≡ rows_with (datasets_of first.parts) (all_batches (datasets_of first.parts) said).sets)
Settles name rows first x y u w k l (Err (endings.Refused e)) =
    (b : SetBatches) × AreTaken (datasets_of first.parts) x y b × IsWhyBy (NeedsPlace name first u) (datasets_of first.parts) x y b e × ClosedUp name first b u w × Gave (told_text b.told) k l
Settles name rows first x y u w k l (Err endings.Disk) = (b : SetBatches) × AreTaken (datasets_of first.parts) x y b × BrokeTold name first b u w k l
Settles name rows first x y u w k l (Err endings.Sink) = (b : SetBatches) × AreTaken (datasets_of first.parts) x y b × (ClosedUp name first b u w ⊎ Broke name first b u w) × StopsAtLine b k l

-- whatever was taken, of a disk that had failed so often
abbrev pub SettlesOn : ℕ → List ℕ → Sessions → DiskView → DiskView → Result (Unit {0}) Ending → Result (Unit {0}) Ending → Type 0
SettlesOn faults name S v w taken r =
    (first : Sessions) (x y : SourceView) (u : DiskView) (k l : SinkView) → u.faults ≡ faults → TakesInput name first S x y u v k l taken → Settles name (map rows_of S.parts) first x y u w k l r

-- ---- The open

-- What is retired stays so, or is free again.
pub record IsKept (S T : Sessions) : Type 0 where
  pub session : (T ≡ S) ⊎ (T ≡ keeping S)
  pub stands : (log : FileLog) → StandsAll S log → StandsAll T log

-- The session that begins over the file, which is there if the disk tells its files. Over a file that is valid for all names it is that of the log to which
-- nothing happened yet.
pub record IsOpenOver (by : Beginning) (name : List ℕ) (names : List (List ℕ)) (limit : ℕ) (v : DiskView) (first : Sessions) : Type 0 where
  pub there : IsThere v name
  pub budget : ℕ
  pub opened : Sessions
  pub begun : HaveBegunBy by names limit budget opened
  pub kept : IsKept opened first
  pub exact : (img : List ℕ) → told_bytes v.told name ≡ Some img → IsBegunAll by img (length img) names opened
  pub stands : (img : List ℕ) (t : AllSummary) (sets : List Begun) → told_bytes v.told name ≡ Some img → AllValid img names t → AllPaired (ReadsIt img) names sets → StandsAll first (opened_file img sets)

-- what the look of an open gives
abbrev pub LooksOpen : Beginning → List ℕ → List (List ℕ) → (limit budget : ℕ) → DiskView → DiskView → Result Sessions ErrorLine → Type 0
LooksOpen by name names limit budget v w (Ok S) = IsOpenOver by name names limit v S × HaveBegunBy by names limit budget S
LooksOpen by name names limit budget v w (Err e) = Unopened by name names v w e

-- what an open gives
abbrev pub OpensBy : Beginning → List ℕ → List (List ℕ) → (limit : ℕ) → DiskView → DiskView → Result Sessions ErrorLine → Type 0
OpensBy by name names limit v w (Ok S) = IsOpenOver by name names limit v S × IsBegun name S w × LeavesFiles v.told v w
OpensBy by name names limit v w (Err e) = Unopened by name names v w e

-- ---- The whole append

-- The session that began over the file took its input and was closed, or the disk failed. The text is the last line of all.
pub record Finishes (by : Beginning) (name : List ℕ) (names : List (List ℕ)) (limit : ℕ) (x y : SourceView) (v w : DiskView) (k l : SinkView) (text : List ℕ) (result : Result (Unit {0}) Ending) : Type 0 where
  pub first : Sessions
  pub opened : IsOpenOver by name names limit v first
  pub rows : List ℕ
  pub settles : Settles name rows first x y v w k l result
  pub line : OnOk result (text ≡ closed_line rows)

-- The file was not opened: nothing was read and nothing written.
pub record BeginsNone (by : Beginning) (name : List ℕ) (names : List (List ℕ)) (x y : SourceView) (v w : DiskView) (k l : SinkView) (e : ErrorLine) : Type 0 where
  pub unopened : Unopened by name names v w e
  pub unread : y ≡ x
  pub unwritten : l ≡ k

-- either, by the result of it all
abbrev pub FinishesBy : Beginning → List ℕ → List (List ℕ) → (limit : ℕ) → SourceView → SourceView → DiskView → DiskView → SinkView → SinkView → List ℕ → Result (Unit {0}) Ending → Type 0
FinishesBy by name names limit x y v w k l text (Ok a) = Finishes by name names limit x y v w k l text (Ok a)
FinishesBy by name names limit x y v w k l text (Err (endings.Refused e)) = BeginsNone by name names x y v w k l e ⊎ Finishes by name names limit x y v w k l text (Err (endings.Refused e))
FinishesBy by name names limit x y v w k l text (Err endings.Disk) = Finishes by name names limit x y v w k l text (Err endings.Disk)
FinishesBy by name names limit x y v w k l text (Err endings.Sink) = Finishes by name names limit x y v w k l text (Err endings.Sink)
