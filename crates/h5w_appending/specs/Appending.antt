-- What the calls of an append do, one by one.
use Rattle.std.specs.Prelude.{◌≡◌, ◌⊎◌, ℕ, ◌+◌, ◌≤◌, true, false, Bool, List, [], ◌∷◌, length, Option, Some, None, IfSome, OnOk, Result, Ok, Err, ℤ, option_map}
use Rattle.h5w_model.specs.Causes.{Rose}
use Rattle.h5w_model.specs.Lawful.{first_outside}
use Rattle.h5w_model.specs.Logs.{Log, and_now, appends, plans}
use Rattle.h5w_image.specs.View.{DiskView, IsThere, file}
use Rattle.h5w_writer.specs.Flushes.{SameBut}
use Rattle.h5w_writer.specs.Loads.{NoPlace}
use Rattle.h5w_writer.specs.Refusals.{IsDeepFor, IsFullFor, append_refusal}
use Rattle.h5w_writer.specs.Sessions.{AddsValues, Session, TakesRows, rows_of, stopped_of}
use Rattle.h5w_writer.specs.Stands.{Stands}
use Rattle.h5w_writer.specs.declared.refusal.AppendError.TheVariants as append_errors
use Rattle.h5w_several_open.specs.declared.beginning.Beginning.{Beginning}
use Rattle.h5w_input.specs.LinesAhead.{Ended, Given, GivenUp, IntakeView, IsOver, IsWhole, LinesAhead, TakesNumbers, lines_ahead}
use Rattle.h5w_input.specs.Scripts.{number_line_of}
use Rattle.h5w_input.specs.declared.line.LineError.{LineError}
use Rattle.h5w_input.specs.declared.line.LineError.TheVariants as line_errors
use Rattle.h5w_text.specs.Streams.{SourceView, SinkView, Gave}
use Rattle.h5w_text.specs.declared.error.ErrorLine.{ErrorLine}
use Rattle.h5w_text.specs.declared.error.ErrorLine.TheVariants as errors
use Rattle.h5w_files.specs.Images.{LeavesFiles}
use Rattle.h5w_batches.specs.Batches.{Batches, after_line, after_lines, close_batch, no_batches}
use Rattle.h5w_batches.specs.Inputs.{ReadsAll}
use Rattle.h5w_batches.specs.Reads.{Takes, error_of}
use Rattle.h5w_batches.specs.declared.error.BatchError.{BatchError}
use Rattle.h5w_batches.specs.declared.error.BatchError.TheVariants as batch_errors
use Rattle.h5w_appending.specs.Taken.{AreTaken, closed_text, rows_after}
use Rattle.h5w_appending.specs.Appends.{Broke, ClosedUp, InputRefuses, IsOpenOver, StopsAtLine, Stored, Unopened, columns_of, lines_of}
use Rattle.h5w_appending.specs.Puts.{AllAre, PutsPieces, counts_of}
use Rattle.h5w_appending.specs.declared.batching.Ending.{Ending}
use Rattle.h5w_appending.specs.declared.batching.Ending.TheVariants as endings

-- The session runs and has nothing pending, and the file has room for the piece that closes it.
pub record IsReady (name : List ℕ) (s : Session) (v : DiskView) : Type 0 where
  pub there : IsThere v name
  pub running : s.stopped ≡ false
  pub columns : 1 ≤ s.dataset.shape.cols
  pub idle : s.pending ≡ []
  pub room : 1 ≤ v.pieces
  pub end : s.places.end ≤ v.end name

-- nothing was put, and what room there was is there
pub record Unput (name : List ℕ) (v w : DiskView) : Type 0 where
  pub disk : LeavesFiles v.told v w
  pub room : v.pieces ≤ w.pieces
  pub end : v.end name ≤ w.end name

-- ---- The session's calls

-- why values are not appended
abbrev pub ValuesRefused : ℕ → Session → List ℤ → ErrorLine → Type 0
ValuesRefused line s values (errors.Range n i x) = (n ≡ line) × (first_outside s.dataset.int_type 0 values ≡ Some (i, x))
ValuesRefused line s values (errors.FullChunks chunks limit) = append_refusal s values ≡ Some (append_errors.Chunks chunks limit)
ValuesRefused line s values errors.Memory = Unit {0}
ValuesRefused line s values e = ⊥

-- the session was stopped
pub record Halted (s t : Session) : Type 0 where
  pub session : t ≡ stopped_of s
  pub stands : (log : Log) → Stands s log → Stands t log

-- The values were appended. Pieces of rows that are written before their flush may be pending, and there is room for them and one more.
pub record AppendsAll (name : List ℕ) (s t : Session) (values : List ℤ) (w : DiskView) : Type 0 where
  pub added : AddsValues s values t
  pub stands : (log : Log) → Stands s log → Stands t (and_now (appends values) log)
  pub room : length t.pending + 1 ≤ w.pieces
  pub end : t.places.end ≤ w.end name

abbrev pub AppendsBy : List ℕ → ℕ → List ℤ → Session → Session → DiskView → DiskView → Result (Unit {0}) Ending → Type 0
AppendsBy name line values s t v w (Ok a) = AppendsAll name s t values w
AppendsBy name line values s t v w (Err (endings.Refused e)) = (t ≡ s) × ValuesRefused line s values e
AppendsBy name line values s t v w (Err endings.Disk) = Halted s t × Rose v.faults w.faults
AppendsBy name line values s t v w (Err endings.Sink) = ⊥

-- why a batch is not flushed
abbrev pub FlushRefused : Session → ErrorLine → Type 0
FlushRefused s (errors.FullSpace at size limit) =
    IsFullFor s (record { at = at; size = size; limit = limit }) × ((log : Log) → Stands s log → NoPlace s log (record { at = at; size = size; limit = limit }))
FlushRefused s errors.Deep = IsDeepFor s
FlushRefused s errors.Memory = Unit {0}
FlushRefused s e = ⊥

-- no row waited, and nothing is another
abbrev pub HasNone : Session → Session → Type 0
HasNone s t = (s.waits ≡ 0) × (t ≡ s)

-- the pieces of the rows that waited are pending, and there is room for them and one more
pub record Planned (name : List ℕ) (s t : Session) (w : DiskView) : Type 0 where
  pub waits : 1 ≤ s.waits
  pub rows : TakesRows s t
  pub some : 1 ≤ length t.pending
  pub stands : (log : Log) → Stands s log → Stands t (and_now (plans (length t.pending)) log)
  pub room : length t.pending + 1 ≤ w.pieces
  pub end : t.places.end ≤ w.end name

-- the session as it was, but for blocks of the index that are held
pub record Unflushed (s t : Session) : Type 0 where
  pub same : SameBut s t
  pub stands : (log : Log) → Stands s log → Stands t log

abbrev pub FlushesBy : List ℕ → Session → Session → DiskView → DiskView → Result (Unit {0}) Ending → Type 0
FlushesBy name s t v w (Ok a) = HasNone s t ⊎ Planned name s t w
FlushesBy name s t v w (Err (endings.Refused e)) = Unflushed s t × FlushRefused s e
FlushesBy name s t v w (Err endings.Disk) = (middle : Session) × Unflushed s middle × Halted middle t × Rose v.faults w.faults
FlushesBy name s t v w (Err endings.Sink) = ⊥

-- All pending pieces were put, and the disk failed so often and no more.
pub record PutsAll (faults : ℕ) (name : List ℕ) (s t : Session) (v w : DiskView) : Type 0 where
  pub puts : PutsPieces name s t v w
  pub all : t.pending ≡ []
  pub before : v.faults ≡ faults
  pub calm : w.faults ≡ faults

-- The disk failed once more than so often, before all of them were put, and the session was stopped.
pub record PutsHalted (faults : ℕ) (name : List ℕ) (s t : Session) (v w : DiskView) : Type 0 where
  pub middle : Session
  pub puts : PutsPieces name s middle v w
  pub since : AllAre faults (counts_of puts.puts)
  pub left : 1 ≤ length s.pending → 1 ≤ length middle.pending
  pub rose : faults ≤ v.faults → Rose faults w.faults
  pub halted : Halted middle t

abbrev pub PutsBy : ℕ → List ℕ → Session → Session → DiskView → DiskView → Result (Unit {0}) Ending → Type 0
PutsBy faults name s t v w (Ok a) = PutsAll faults name s t v w
PutsBy faults name s t v w (Err (endings.Refused e)) = ⊥
PutsBy faults name s t v w (Err endings.Disk) = PutsHalted faults name s t v w
PutsBy faults name s t v w (Err endings.Sink) = ⊥

-- ---- Batches

-- the session can go on, but where the disk failed
abbrev pub ReadyUnlessDisk : List ℕ → Session → DiskView → Result (Unit {0}) Ending → Type 0
ReadyUnlessDisk name t w (Ok a) = IsReady name t w
ReadyUnlessDisk name t w (Err (endings.Refused e)) = IsReady name t w
ReadyUnlessDisk name t w (Err endings.Disk) = Unit {0}
ReadyUnlessDisk name t w (Err endings.Sink) = IsReady name t w

-- these batches were stored, and their lines were written
pub record Told (name : List ℕ) (first t : Session) (b : Batches) (u w : DiskView) (k l : SinkView) : Type 0 where
  pub stored : Stored name first t b u w
  pub gave : Gave (lines_of first b.closed) k l

-- they were stored, and the sink failed at the line of the last
pub record HalfTold (name : List ℕ) (first t : Session) (b : Batches) (u w : DiskView) (k l : SinkView) : Type 0 where
  pub stored : Stored name first t b u w
  pub stops : StopsAtLine (columns_of first) first.dataset.shape.rows b k l

-- the disk failed behind them, and their lines were written
pub record BrokeTold (name : List ℕ) (first : Session) (b : Batches) (u w : DiskView) (k l : SinkView) : Type 0 where
  pub broke : Broke name first b u w
  pub gave : Gave (lines_of first b.closed) k l

-- the batches before a step or behind it: behind it where the disk failed at a piece of values that were appended
abbrev pub IsEither : (Batches → Type 0) → Batches → Batches → Type 0
IsEither Next b at = (at ≡ b) ⊎ Next at

-- A step that leads from some batches to others, by its result; a refusal has its cause.
abbrev pub Steps : List ℕ → Session → Session → Batches → (Batches → Type 0) → (ErrorLine → Type 0) → DiskView → DiskView → SinkView → SinkView → Result (Unit {0}) Ending → Type 0
Steps name first t b Next Cause u w k l (Ok a) = (next : Batches) × Next next × Told name first t next u w k l
Steps name first t b Next Cause u w k l (Err (endings.Refused e)) = Told name first t b u w k l × Cause e
Steps name first t b Next Cause u w k l (Err endings.Disk) = (at : Batches) × IsEither Next b at × BrokeTold name first at u w k l
Steps name first t b Next Cause u w k l (Err endings.Sink) = (next : Batches) × Next next × HalfTold name first t next u w k l

-- for each session that began with the first, whatever was stored before, of a disk that had failed so often
abbrev pub StepsOn : ℕ → List ℕ → Session → Session → (Session → Batches → Batches → Type 0) → (ErrorLine → Type 0) → DiskView → DiskView → SinkView → SinkView → Result (Unit {0}) Ending → Type 0
StepsOn faults name s t Next Cause v w k l r =
    (first : Session) (b : Batches) (u : DiskView) (m : SinkView) → u.faults ≡ faults → Told name first s b u v m k → Steps name first t b (Next first b) Cause u w m l r

abbrev pub Closes : Session → Batches → Batches → Type 0
Closes first b next = next ≡ close_batch b

-- the batches behind a line
abbrev pub TakesLine : List ℕ → Session → Batches → Batches → Type 0
TakesLine line first b next = Takes (columns_of first) line b next

-- there are values
abbrev pub HasSome : Option (List ℤ) → Type 0
HasSome o = (values : List ℤ) × (o ≡ Some values)

-- why a line is refused
abbrev pub LineRefused : List ℕ → ℕ → Session → ErrorLine → Type 0
LineRefused line number s (errors.Line n) = (n ≡ number) × (number_line_of (columns_of s) line ≡ None)
LineRefused line number s (errors.Range n i x) = (values : List ℤ) × (number_line_of (columns_of s) line ≡ Some values) × ValuesRefused number s values (errors.Range n i x)
LineRefused line number s (errors.FullChunks chunks limit) = (values : List ℤ) × (number_line_of (columns_of s) line ≡ Some values) × ValuesRefused number s values (errors.FullChunks chunks limit)
LineRefused line number s (errors.FullSpace at size limit) = (number_line_of (columns_of s) line ≡ Some []) × FlushRefused s (errors.FullSpace at size limit)
LineRefused line number s errors.Deep = (number_line_of (columns_of s) line ≡ Some []) × FlushRefused s errors.Deep
LineRefused line number s errors.Memory = Unit {0}
LineRefused line number s e = ⊥

-- ---- Lines of one value that stand next, all at once

-- Some values are appended, by the result: whether they were. Where they are refused nothing is another.
abbrev pub RunsOn : ℕ → List ℕ → Session → Session → List ℤ → DiskView → DiskView → Result Bool Ending → Type 0
RunsOn faults name s t values v w (Ok true) =
    IsReady name t w × (columns_of t ≡ columns_of s)
    × ((first : Session) (b : Batches) (u : DiskView) (k m : SinkView) → u.faults ≡ faults → Told name first s b u v m k → Told name first t (after_line b values) u w m k)
RunsOn faults name s t values v w (Ok false) = (t ≡ s) × Unput name v w
RunsOn faults name s t values v w (Err (endings.Refused e)) = ⊥
RunsOn faults name s t values v w (Err endings.Disk) =
    (first : Session) (b : Batches) (u : DiskView) (k m : SinkView) → u.faults ≡ faults → Told name first s b u v m k → (at : Batches) × IsEither (λ next. next ≡ after_line b values) b at × BrokeTold name first at u w m k
RunsOn faults name s t values v w (Err endings.Sink) = ⊥

-- each value by itself
abbrev pub each_alone : List ℤ → List (List ℤ)
each_alone [] = []
each_alone (x ∷ xs) = (x ∷ []) ∷ each_alone xs

-- lines of one value each are taken, one behind the other
abbrev pub TakesSingles : List ℤ → LinesAhead → LinesAhead → Type 0
TakesSingles [] x y = y ≡ x
TakesSingles (v ∷ vs) x y = (middle : LinesAhead) × TakesNumbers 1 (v ∷ []) x middle × TakesSingles vs middle y

-- So many lines that stood next were taken at once, and their values appended. Where the disk failed they were appended or not.
abbrev pub TakesAhead : ℕ → List ℕ → Session → Session → LinesAhead → LinesAhead → DiskView → DiskView → Result ℕ Ending → Type 0
TakesAhead faults name s t x y v w (Ok n) =
    IsReady name t w × (columns_of t ≡ columns_of s)
    × (values : List ℤ) × (n ≡ length values) × (1 ≤ n → columns_of s ≡ 1) × TakesSingles values x y
    × ((first : Session) (b : Batches) (u : DiskView) (k m : SinkView) → u.faults ≡ faults → Told name first s b u v m k → Told name first t (after_lines b (each_alone values)) u w m k)
TakesAhead faults name s t x y v w (Err (endings.Refused e)) = ⊥
TakesAhead faults name s t x y v w (Err endings.Disk) =
    (columns_of s ≡ 1) × (values : List ℤ) × (z : LinesAhead) × TakesSingles values x z
    × ((first : Session) (b : Batches) (u : DiskView) (k m : SinkView) → u.faults ≡ faults → Told name first s b u v m k → (at : Batches) × IsEither (λ next. next ≡ after_lines b (each_alone values)) b at × BrokeTold name first at u w m k)
TakesAhead faults name s t x y v w (Err endings.Sink) = ⊥

-- The line of this number and of these values was taken, and then so many that stood next, or the disk failed at these.
pub record HeldThen (faults : ℕ) (name : List ℕ) (number : ℕ) (values : List ℤ) (s t : Session) (x y : LinesAhead) (v w : DiskView) (k l : SinkView) (r : Result ℕ Ending) : Type 0 where
  pub middle : Session
  pub between : DiskView
  pub steps : (line : List ℕ) → number_line_of (columns_of s) line ≡ Some values → StepsOn faults name s middle (TakesLine line) (LineRefused line number s) v between k l (Ok tt)
  pub ready : IsReady name middle between
  pub columns : columns_of middle ≡ columns_of s
  pub ahead : TakesAhead faults name middle t x y between w r

-- by the result: the line itself may be the one that is not taken
abbrev pub HeldOn : ℕ → List ℕ → ℕ → List ℤ → Session → Session → LinesAhead → LinesAhead → DiskView → DiskView → SinkView → SinkView → Result ℕ Ending → Type 0
HeldOn faults name number values s t x y v w k l (Ok n) = HeldThen faults name number values s t x y v w k l (Ok n)
HeldOn faults name number values s t x y v w k l (Err e) =
    (ReadyUnlessDisk name t w (Err e) × ((line : List ℕ) → number_line_of (columns_of s) line ≡ Some values → StepsOn faults name s t (TakesLine line) (LineRefused line number s) v w k l (Err e)))
    ⊎ HeldThen faults name number values s t x y v w k l (Err e)

-- ---- The next line

-- the end of an append whose input was not read
abbrev pub ending_of : BatchError → Ending
ending_of (batch_errors.Line n) = endings.Refused (errors.Line n)
ending_of (batch_errors.Input limit) = endings.Refused (errors.Input limit)
ending_of batch_errors.Source = endings.Refused errors.Source
ending_of batch_errors.OutOfMemory = endings.Refused errors.Memory

-- It was not read: nothing is another but what was read of the source.
pub record IsUnread (s t : Session) (x : LinesAhead) (y : SourceView) (j : IntakeView) (v w : DiskView) (k l : SinkView) (e : LineError) : Type 0 where
  pub session : t ≡ s
  pub disk : w ≡ v
  pub sink : l ≡ k
  pub rose : e ≡ line_errors.Failed → Rose x.faults y.faults
  pub up : e ≡ line_errors.Failed → GivenUp x (lines_ahead y j) j.held
  pub over : (limit : ℕ) → e ≡ line_errors.Input limit → (limit ≡ x.limit) × IsOver x

-- It was taken, and it has values.
pub record NextTaken (faults : ℕ) (name : List ℕ) (number : ℕ) (s t : Session) (x z : LinesAhead) (v w : DiskView) (k l : SinkView) (line : List ℕ) : Type 0 where
  pub given : Given line x z
  pub values : List ℤ
  pub spelled : number_line_of (columns_of s) line ≡ Some values
  pub steps : StepsOn faults name s t (TakesLine line) (LineRefused line number s) v w k l (Ok tt)
  pub ready : IsReady name t w
  pub columns : columns_of t ≡ columns_of s

-- It is taken, by the result: whether more may stand behind it. None does behind the last one, or where there is none.
pub data NextOn (faults : ℕ) (name : List ℕ) (number : ℕ) (s t : Session) (x : LinesAhead) (y : SourceView) (j : IntakeView) (v w : DiskView) (k l : SinkView) : Result Bool Ending → Type 0 where
  is_unread : (e : LineError) → IsUnread s t x y j v w k l e → NextOn faults name number s t x y j v w k l (Err (ending_of (error_of e)))
  is_refused : (line : List ℕ) (e : Ending) → Given line x (lines_ahead y j) → IsWhole line x (lines_ahead y j) ⊎ IfSome (lines_ahead y j).left (λ left. left ≡ [])
      → StepsOn faults name s t (TakesLine line) (LineRefused line number s) v w k l (Err e) → ReadyUnlessDisk name t w (Err e) → NextOn faults name number s t x y j v w k l (Err e)
  is_line : (line : List ℕ) → NextTaken faults name number s t x (lines_ahead y j) v w k l line → IsWhole line x (lines_ahead y j) → NextOn faults name number s t x y j v w k l (Ok true)
  is_last : (line : List ℕ) → NextTaken faults name number s t x (lines_ahead y j) v w k l line → IfSome (lines_ahead y j).left (λ left. left ≡ []) → NextOn faults name number s t x y j v w k l (Ok false)
  is_none : Ended x (lines_ahead y j) → t ≡ s → w ≡ v → l ≡ k → NextOn faults name number s t x y j v w k l (Ok false)

-- ---- An input

-- The lines of an input are appended by a session that has stored nothing yet, by their result.
abbrev pub TakesInput : List ℕ → Session → Session → SourceView → SourceView → DiskView → DiskView → SinkView → SinkView → Result (Unit {0}) Ending → Type 0
TakesInput name first t x y u w k l (Ok a) = (numbers : List (List ℤ)) × ReadsAll (columns_of first) x y numbers × Told name first t (close_batch (after_lines no_batches numbers)) u w k l
TakesInput name first t x y u w k l (Err (endings.Refused e)) = (b : Batches) × AreTaken (columns_of first) x y b × InputRefuses name first x y b u e × Told name first t b u w k l
TakesInput name first t x y u w k l (Err endings.Disk) = (b : Batches) × AreTaken (columns_of first) x y b × BrokeTold name first b u w k l
TakesInput name first t x y u w k l (Err endings.Sink) = (b : Batches) × AreTaken (columns_of first) x y b × HalfTold name first t b u w k l

-- whatever was stored before, of a disk that had failed so often
abbrev pub TakesInputOn : ℕ → List ℕ → Session → Session → SourceView → SourceView → DiskView → DiskView → SinkView → SinkView → Result (Unit {0}) Ending → Type 0
TakesInputOn faults name s t x y v w k l r =
    (first : Session) (u : DiskView) (m : SinkView) → u.faults ≡ faults → Told name first s no_batches u v m k → TakesInput name first t x y u w m l r

-- of a session that has just begun, from each state of the disk on in which the file was as it is, and the disk had failed so often
abbrev pub TakesInputFrom : ℕ → List ℕ → Session → Session → SourceView → SourceView → DiskView → DiskView → SinkView → SinkView → Result (Unit {0}) Ending → Type 0
TakesInputFrom faults name s t x y v w k l r = (u : DiskView) → u.faults ≡ faults → LeavesFiles u.told u v → TakesInput name s t x y u w k l r

-- ---- A file

-- The session has just begun over the file, which has room for what is pending and the piece that closes it.
pub record IsBegun (name : List ℕ) (s : Session) (v : DiskView) : Type 0 where
  pub there : IsThere v name
  pub running : s.stopped ≡ false
  pub waits : s.waits ≡ 0
  pub room : length s.pending + 1 ≤ v.pieces
  pub end : s.places.end ≤ v.end name

-- the session was closed, or the disk failed more often than so
abbrev pub ClosesBy : ℕ → List ℕ → Session → DiskView → DiskView → Result (Unit {0}) Ending → Type 0
ClosesBy faults name s v w (Ok a) = (first : Session) (b : Batches) (u : DiskView) → u.faults ≡ faults → Stored name first s b u v → ClosedUp name first b u w
ClosesBy faults name s v w (Err endings.Disk) = (first : Session) (b : Batches) (u : DiskView) → u.faults ≡ faults → Stored name first s b u v → Broke name first b u w
ClosesBy faults name s v w (Err e) = ⊥

-- What is left of an append once the session of so many rows was closed, by the result of it all.
abbrev pub Settles : List ℕ → ℕ → Session → SourceView → SourceView → DiskView → DiskView → SinkView → SinkView → Result (Unit {0}) Ending → Type 0
Settles name rows first x y u w k l (Ok a) = (numbers : List (List ℤ)) × ReadsAll (columns_of first) x y numbers × ClosedUp name first (close_batch (after_lines no_batches numbers)) u w
    × Gave (lines_of first (close_batch (after_lines no_batches numbers)).closed) k l × (rows ≡ rows_after (columns_of first) first.dataset.shape.rows (close_batch (after_lines no_batches numbers)).closed)
Settles name rows first x y u w k l (Err (endings.Refused e)) = (b : Batches) × AreTaken (columns_of first) x y b × InputRefuses name first x y b u e × ClosedUp name first b u w × Gave (lines_of first b.closed) k l
Settles name rows first x y u w k l (Err endings.Disk) = (b : Batches) × AreTaken (columns_of first) x y b × BrokeTold name first b u w k l
Settles name rows first x y u w k l (Err endings.Sink) =
    (b : Batches) × AreTaken (columns_of first) x y b × (ClosedUp name first b u w ⊎ Broke name first b u w) × StopsAtLine (columns_of first) first.dataset.shape.rows b k l

-- whatever was taken, of a disk that had failed so often
abbrev pub SettlesOn : ℕ → List ℕ → Session → DiskView → DiskView → Result (Unit {0}) Ending → Result (Unit {0}) Ending → Type 0
SettlesOn faults name s v w taken r =
    (first : Session) (x y : SourceView) (u : DiskView) (k l : SinkView) → u.faults ≡ faults → TakesInput name first s x y u v k l taken → Settles name (rows_of s) first x y u w k l r

-- ---- The open

-- a file of this size is looked at
abbrev pub HasSize : DiskView → List ℕ → ℕ → Type 0
HasSize v name size = IfSome v.told (λ d. Some size ≡ option_map length (file d name))

-- what the look of an open gives
abbrev pub LooksOpen : Beginning → List ℕ → List ℕ → (limit budget : ℕ) → DiskView → DiskView → Result Session ErrorLine → Type 0
LooksOpen by name at limit budget v w (Ok s) = IsOpenOver by name at limit budget false v s
LooksOpen by name at limit budget v w (Err e) = Unopened by name at v w e

-- what an open gives
abbrev pub OpensBy : Beginning → List ℕ → List ℕ → (limit budget : ℕ) → Bool → DiskView → DiskView → Result Session ErrorLine → Type 0
OpensBy by name at limit budget keeps v w (Ok s) = IsOpenOver by name at limit budget keeps v s × IsBegun name s w × LeavesFiles v.told v w
OpensBy by name at limit budget keeps v w (Err e) = Unopened by name at v w e

-- ---- The whole append

-- The session that began over the file took its input and was closed, or the disk failed. The text is the last line of all.
pub record Finishes (by : Beginning) (name at : List ℕ) (limit budget : ℕ) (keeps : Bool) (x y : SourceView) (v w : DiskView) (k l : SinkView) (text : List ℕ) (result : Result (Unit {0}) Ending) : Type 0 where
  pub first : Session
  pub opened : IsOpenOver by name at limit budget keeps v first
  pub rows : ℕ
  pub settles : Settles name rows first x y v w k l result
  pub line : OnOk result (text ≡ closed_text rows)

-- The file was not opened: nothing was read and nothing written.
pub record BeginsNone (by : Beginning) (name at : List ℕ) (x y : SourceView) (v w : DiskView) (k l : SinkView) (e : ErrorLine) : Type 0 where
  pub unopened : Unopened by name at v w e
  pub unread : y ≡ x
  pub unwritten : l ≡ k

-- either, by the result of it all
abbrev pub FinishesBy : Beginning → List ℕ → List ℕ → (limit budget : ℕ) → Bool → SourceView → SourceView → DiskView → DiskView → SinkView → SinkView → List ℕ → Result (Unit {0}) Ending → Type 0
FinishesBy by name at limit budget keeps x y v w k l text (Ok a) = Finishes by name at limit budget keeps x y v w k l text (Ok a)
FinishesBy by name at limit budget keeps x y v w k l text (Err (endings.Refused e)) = BeginsNone by name at x y v w k l e ⊎ Finishes by name at limit budget keeps x y v w k l text (Err (endings.Refused e))
FinishesBy by name at limit budget keeps x y v w k l text (Err endings.Disk) = Finishes by name at limit budget keeps x y v w k l text (Err endings.Disk)
FinishesBy by name at limit budget keeps x y v w k l text (Err endings.Sink) = Finishes by name at limit budget keeps x y v w k l text (Err endings.Sink)
