-- What the writer and the readers of a run leave, what the run reports of it, and by what cause it does not.
use Rattle.std.specs.Prelude.{◌≡◌, ◌≢◌, ℕ, ◌+◌, ◌-◌, ◌*◌, ◌/◌, ◌^◌, ◌<◌, ◌≤◌, List, [], ◌∷◌, length, take, drop, ℤ, Option, Some, None, Result, Ok, Err, IfOk, IfErr, OnOk}
use Rattle.h5w_model.specs.Agrees.{Agrees, ReaderAgrees, Run, values_in}
use Rattle.h5w_model.specs.Headers.{header_view}
use Rattle.h5w_model.specs.Images.{image}
use Rattle.h5w_model.specs.Messages.{IsIntType}
use Rattle.h5w_model.specs.Numbers.{range}
use Rattle.h5w_model.specs.Superblock.{super_at}
use Rattle.h5w_model.specs.Tables.{Reading, Reads, Shows, format_limits}
use Rattle.h5w_model.specs.declared.piece.Write.{Write}
use Rattle.h5w_model.specs.declared.report.FlushLine.{FlushLine}
use Rattle.h5w_model.specs.declared.report.PollLine.{PollLine}
use Rattle.h5w_model.specs.declared.root.Super.{Super}
use Rattle.h5w_creation_laws.specs.CreatedFiles.{CreatedFile, created_writes}
use Rattle.h5w_model.specs.Unfinished.{ReaderRules}
use Rattle.h5w_reader.specs.Readers.{reader_rules}
use Rattle.h5w_writer.specs.Sessions.{Session}
use Rattle.h5w_writer.specs.declared.refusal.AppendError.TheVariants as appends
use Rattle.h5w_shared.specs.Seats.{ImageId, SeatView}
use Rattle.h5w_shared.specs.Turns.{StartsWith}
use Rattle.h5w_live_reading.specs.Ends.{ReadersEnd}
use Rattle.h5w_live_reading.specs.Reading.{Polled}
use Rattle.h5w_live.specs.Seconds.{IsSecondOf}
use Rattle.h5w_live.specs.Writing.{Explains, HasFlushed, IsFullAt, first_refused}
use Rattle.h5w_live_reading.specs.declared.actors.AllEnded.{AllEnded}
use Rattle.h5w_live_reading.specs.declared.actors.Cut.{Cut}
use Rattle.h5w_live.specs.declared.report.LiveError.{LiveError}
use Rattle.h5w_live.specs.declared.report.LiveError.TheVariants as lives
use Rattle.h5w_live.specs.declared.report.LiveReport.{LiveReport}
use Rattle.h5w_live.specs.declared.threads.Beside.{Beside}
use Rattle.h5w_live.specs.declared.threads.Written.{Written}
use Rattle.h5w_live.specs.declared.writing.Halt.TheVariants as halts

-- ---- The report

-- a run over a file: what it was asked for, its values and its flushes; the creation has so many pieces as the file's index asks for
abbrev pub run_of : CreatedFile → (attempts readers calls : ℕ) → List (List ℤ) → List FlushLine → Run
run_of f attempts readers calls bs flushes = record {
  columns = f.columns;
  attempts = attempts;
  readers = readers;
  calls = calls;
  first = length (created_writes f);
  values = values_in bs;
  flushes = flushes;
}

-- what counts of the dataset header at a place, after these pieces
abbrev pub header_after : List Write → ℕ → List ℕ
header_after pieces place = header_view (range (image [] pieces) place 512)

-- A flush became whole by its last piece, that of the dataset header: right before it the image reads as the rows of the flush before, and
-- right behind it as those of this one, and the piece changed the dataset header.
pub record IsWholeBy (name : List ℕ) (columns : ℕ) (pieces : List Write) (values : List ℤ) (before : ℕ) (line : FlushLine) : Type 0 where
  pub some : 1 ≤ line.pieces
  pub within : line.pieces ≤ length pieces
  pub more : before < line.rows
  pub earlier : Reads (image [] (take (line.pieces - 1) pieces)) name before columns (take (before * columns) values)
  pub reads : Reads (image [] (take line.pieces pieces)) name line.rows columns (take (line.rows * columns) values)
  pub header : (r : Reading) → Shows format_limits (image [] (take (line.pieces - 1) pieces)) name r
      → header_after (take line.pieces pieces) r.place ≢ header_after (take (line.pieces - 1) pieces) r.place

-- each flush, one behind another
abbrev pub AreWhole : List ℕ → ℕ → List Write → List ℤ → ℕ → List FlushLine → Type 0
AreWhole name columns pieces values before [] = Unit {0}
AreWhole name columns pieces values before (line ∷ lines) = IsWholeBy name columns pieces values before line × AreWhole name columns pieces values line.rows lines

-- all pieces read as all values, and the superblock has flags 0: nobody writes the file
pub record IsShut (name : List ℕ) (columns : ℕ) (pieces : List Write) (values : List ℤ) : Type 0 where
  pub reads : Reads (image [] pieces) name (length values / columns) columns values
  pub root : Super
  pub super : super_at (range (image [] pieces) 0 48) ≡ Ok root
  pub flags : root.flags ≡ 0

-- the pieces without the last one, which is that of the close
abbrev pub before_close : List Write → List Write
before_close pieces = take (length pieces - 1) pieces

-- each call ended when its seat had seen at most so many pieces
abbrev pub EndBy : ℕ → List PollLine → Type 0
EndBy most [] = Unit {0}
EndBy most (line ∷ lines) = (line.after ≤ most) × EndBy most lines

-- The lines tell of the calls of the reader of this number through its seat, which had seen the pieces of the creation before the first, and in
-- the end some first ones of these pieces.
pub record TellsSeat (f : CreatedFile) (attempts reader : ℕ) (pieces : List Write) (lines : List PollLine) : Type 0 where
  pub seen : List Write
  pub begins : StartsWith pieces seen
  pub polled : Polled (reader_rules f.name attempts) [] reader (created_writes f) seen lines
  pub within : EndBy (length pieces) lines

-- so do the lines of each reader, one reader behind another
abbrev pub TellSeats : CreatedFile → (attempts readers calls : ℕ) → List Write → List PollLine → Type 0
TellSeats f attempts readers calls pieces lines = (k : ℕ) → k < readers → TellsSeat f attempts (k + 1) pieces (take calls (drop (k * calls) lines))

-- why a run did not report: the first batch that is refused, or one for which the file has no place, or no fault of the values
abbrev pub IsCause : CreatedFile → ℕ → List (List ℤ) → LiveError → Type 0
IsCause f most bs (lives.OutOfRange batch index value) = first_refused f 0 1 bs ≡ Some (batch, appends.OutOfRange index value)
IsCause f most bs (lives.Chunks chunks limit) = (batch : ℕ) × (first_refused f 0 1 bs ≡ Some (batch, appends.Chunks chunks limit))
IsCause f most bs (lives.Space full) = (batch : ℕ) × IsFullAt f most bs batch full
IsCause f most bs (lives.Failed worn) = Unit {0}
IsCause f most bs lives.OutOfMemory = Unit {0}

-- the error tells of no batch
abbrev pub TellsNone : LiveError → Type 0
TellsNone (lives.OutOfRange batch index value) = ⊥
TellsNone (lives.Chunks chunks limit) = ⊥
TellsNone (lives.Space full) = ⊥
TellsNone (lives.Failed worn) = Unit {0}
TellsNone lives.OutOfMemory = Unit {0}

-- what a run reports
pub record Reports (f : CreatedFile) (bs : List (List ℤ)) (attempts readers calls : ℕ) (r : LiveReport) : Type 0 where
  pub agrees : Agrees (run_of f attempts readers calls bs r.flushes) bs r.polls
  pub whole : AreWhole f.name f.columns r.journal.writes (values_in bs) 0 r.flushes
  pub shut : IsShut f.name f.columns r.journal.writes (values_in bs)
  pub seats : TellSeats f attempts readers calls (before_close r.journal.writes) r.polls

-- ---- What the threads leave

-- what the writer leaves of all batches
pub record HasPutAll (f : CreatedFile) (most : ℕ) (bs : List (List ℤ)) (i : ImageId) (w : Written) : Type 0 where
  pub image : w.seat.image ≡ i
  pub flushed : IfOk w.lines (λ lines. HasFlushed f most bs w.session w.seat lines.items)
  pub accepted : OnOk w.lines (first_refused f 0 1 bs ≡ None)
  pub refused : IfErr w.lines (λ e. Explains f most bs e.0 e.1)
  pub failed : (batch : ℕ) → w.lines ≡ Err (batch, halts.Failed) → 0 < w.seat.faults

-- what a second image leaves, at which so many readers looked, behind so many others: each of their seats had seen these pieces at first
pub record BesideEnds (g : ReaderRules) (i : ImageId) (before calls readers : ℕ) (seen : List Write) (b : Beside) : Type 0 where
  pub second : IsSecondOf i b.second
  pub ends : ReadersEnd g b.second.image before calls readers seen b.ended

-- no second image has no readers
abbrev pub IsBeside : ReaderRules → ImageId → (before calls readers : ℕ) → List Write → Option Beside → Type 0
IsBeside g i before calls readers seen None = readers ≡ 0
IsBeside g i before calls readers seen (Some b) = BesideEnds g i before calls readers seen b

-- The writer and all readers were joined, those of the second image too, which are numbered behind the others: each reader's seat had seen the
-- pieces of the creation when its thread began.
pub record Ran (i : ImageId) (w : Written) (r : Result AllEnded Cut) (b : Option Beside) : Type 0 where
  pub file : CreatedFile
  pub most : ℕ
  pub batches : List (List ℤ)
  pub attempts : ℕ
  pub readers : ℕ
  pub mirrors : ℕ
  pub calls : ℕ
  pub typed : IsIntType file.int_type
  pub some : 1 ≤ attempts
  pub put : HasPutAll file most batches i w
  pub ends : ReadersEnd (reader_rules file.name attempts) i 0 calls readers (created_writes file) r
  pub beside : IsBeside (reader_rules file.name attempts) i readers calls mirrors (created_writes file) b

-- and the session, whose flushes have these lines, is not closed yet
pub record Joined (i : ImageId) (s : Session) (v : SeatView) (flushes : List FlushLine) (r : Result AllEnded Cut) (b : Option Beside) : Type 0 where
  pub file : CreatedFile
  pub most : ℕ
  pub batches : List (List ℤ)
  pub attempts : ℕ
  pub readers : ℕ
  pub mirrors : ℕ
  pub calls : ℕ
  pub typed : IsIntType file.int_type
  pub some : 1 ≤ attempts
  pub few : length (values_in batches) < 2 ^ 52
  pub start : i.start ≡ []
  pub flushed : HasFlushed file most batches s v flushes
  pub ends : ReadersEnd (reader_rules file.name attempts) i 0 calls readers (created_writes file) r
  pub beside : IsBeside (reader_rules file.name attempts) i readers calls mirrors (created_writes file) b

-- ---- The readers of one image

-- so many readers of an image were joined, behind so many others, in a run of so many in all
pub record PartJoined (i : ImageId) (s : Session) (v : SeatView) (flushes : List FlushLine) (r : Result AllEnded Cut) : Type 0 where
  pub file : CreatedFile
  pub most : ℕ
  pub batches : List (List ℤ)
  pub attempts : ℕ
  pub before : ℕ
  pub readers : ℕ
  pub all : ℕ
  pub calls : ℕ
  pub typed : IsIntType file.int_type
  pub some : 1 ≤ attempts
  pub few : length (values_in batches) < 2 ^ 52
  pub start : i.start ≡ []
  pub flushed : HasFlushed file most batches s v flushes
  pub ends : ReadersEnd (reader_rules file.name attempts) i before calls readers (created_writes file) r

-- the lines of so many readers behind so many others, one reader behind another, agree with the flushes of the run
pub record PartAgrees (run : Run) (before readers : ℕ) (lines : List PollLine) : Type 0 where
  pub count : length lines ≡ readers * run.calls
  pub each : (k : ℕ) → k < readers → ReaderAgrees run (before + k + 1) 1 run.first 0 (take run.calls (drop (k * run.calls) lines))

-- and tell of calls through the readers' seats
abbrev pub TellPart : CreatedFile → (attempts before readers calls : ℕ) → List Write → List PollLine → Type 0
TellPart f attempts before readers calls pieces lines = (k : ℕ) → k < readers → TellsSeat f attempts (before + k + 1) pieces (take calls (drop (k * calls) lines))
