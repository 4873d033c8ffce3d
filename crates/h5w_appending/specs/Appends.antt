-- What an append to a file tells, and what it leaves.
use Rattle.std.specs.Prelude.{◌≡◌, ◌⊎◌, ℕ, ◌+◌, ◌*◌, ◌/◌, ◌≤◌, Bool, true, List, [], ◌∷◌, ◌++◌, length, Option, Some, None, IfSome, Result, Ok, Err, ℤ, option_map}
use Rattle.h5w_model.specs.Causes.{Rose}
use Rattle.h5w_model.specs.Datasets.{Described}
use Rattle.h5w_model.specs.Findings.{Summary, Valid}
use Rattle.h5w_model.specs.Lawful.{first_outside}
use Rattle.h5w_model.specs.Logs.{Log, hist, appended_in, flushed, flushed_in}
use Rattle.h5w_model.specs.Numbers.{range}
use Rattle.h5w_model.specs.Superblock.{super_at, super_bytes}
use Rattle.h5w_model.specs.Tables.{Reads}
use Rattle.h5w_model.specs.declared.piece.Write.{Write}
use Rattle.h5w_model.specs.declared.root.Super.{Super}
use Rattle.h5w_opening.specs.Errors.{IsOpenKind}
use Rattle.h5w_opening.specs.declared.error.OpenError.{OpenError}
use Rattle.h5w_image.specs.View.{DiskView, IsThere, file}
use Rattle.h5w_space.specs.declared.Full.{Full}
use Rattle.h5w_writer.specs.Loads.{NoPlace}
use Rattle.h5w_several_open.specs.Beginnings.{HadFlags, HasBegunBy, IsBegunOver, IsNotBegun, shut_by}
use Rattle.h5w_several_open.specs.declared.beginning.Beginning.{Beginning}
use Rattle.h5w_writer.specs.Openings.{opened_log}
use Rattle.h5w_writer.specs.Refusals.{IsDeepFor, IsFullFor, append_refusal}
use Rattle.h5w_writer.specs.Sessions.{IsNamed, Session, cleared}
use Rattle.h5w_writer.specs.Stands.{Stands}
use Rattle.h5w_writer.specs.declared.refusal.AppendError.TheVariants as appends
use Rattle.h5w_text.specs.Errors.{error_text}
use Rattle.h5w_input.specs.Scripts.{number_line_of}
use Rattle.h5w_writer_lines.specs.Lines.{open_line}
use Rattle.h5w_text.specs.Streams.{SourceView, SinkView, Gave, GaveSome}
use Rattle.h5w_text.specs.declared.error.ErrorLine.{ErrorLine}
use Rattle.h5w_text.specs.declared.error.ErrorLine.TheVariants as errors
use Rattle.h5w_text.specs.declared.status.Status.{Status}
use Rattle.h5w_text.specs.declared.status.Status.TheVariants as statuses
use Rattle.h5w_files.specs.Images.{LeavesFiles, told_bytes}
use Rattle.h5w_files.specs.Ends.{EndsBehind}
use Rattle.h5w_batches.specs.Batches.{Batches, after_lines, close_batch, no_batches}
use Rattle.h5w_batches.specs.Inputs.{ReadsAll, ReadsTooMuch, ReadsWhole, input_limit}
use Rattle.h5w_appending.specs.Taken.{AreTaken, ReadsLine, closed_text, rows_after, rows_lines, values_of}
use Rattle.h5w_appending.specs.Puts.{AgreesAtFirst, AllAre, ComesFirst, after_puts, counts_of, writes_of}
use Rattle.h5w_files.specs.Polls.{count_text}

-- ---- A session that stores batches

-- how many values a row has, and how many rows the file had
abbrev pub columns_of : Session → ℕ
columns_of s = s.dataset.shape.cols

abbrev pub lines_of : Session → List (List ℤ) → List ℕ
lines_of first bs = rows_lines (columns_of first) first.dataset.shape.rows bs

-- the line of the last of these batches
abbrev pub last_line_of : Session → List (List ℤ) → List ℕ
last_line_of first bs = count_text (rows_after (columns_of first) first.dataset.shape.rows bs)

-- The session is that of a log over a file with these bytes and values. These pieces became visible; the batches that were closed
-- are flushed, and the values that wait are appended behind them.
pub record IsLogOf (img : List ℕ) (columns : ℕ) (values : List ℤ) (s : Session) (ws : List Write) (b : Batches) : Type 0 where
  pub log : Log
  pub stands : Stands s log
  pub begun : log ≡ record (opened_log img columns values) { events = log.events }
  pub pieces : hist log.events ≡ ws
  pub flushed_are : flushed log ≡ values ++ values_of b.closed
  pub appended_are : appended_in log.events ≡ values_of b.closed ++ b.waiting

-- the dataset with so many rows, and with this address of its index
abbrev pub grown : ℕ → ℕ → Described → Described
grown rows index d = record d { shape = record (d.shape) { rows = rows }; layout = record (d.layout) { address = index } }

-- The session is the one that began, once these batches were closed, and these values wait. An index that the dataset named is where it
-- was, the file may grow to the limit that it had, its end did not fall, and so many bytes as before may wait unwritten.
pub record HasTaken (first s : Session) (b : Batches) : Type 0 where
  pub name : s.name ≡ first.name
  pub root : s.root ≡ record (first.root) { end = s.root.end }
  pub dataset : s.dataset ≡ grown s.dataset.shape.rows s.dataset.layout.address first.dataset
  pub named : IsNamed first.dataset → s.dataset.layout.address ≡ first.dataset.layout.address
  pub rows : s.dataset.shape.rows ≡ rows_after (columns_of first) first.dataset.shape.rows b.closed
  pub waits : length b.waiting ≡ s.waits * columns_of first
  pub limit : s.places.limit ≡ first.places.limit
  pub rises : first.places.end ≤ s.places.end
  pub keeps : s.keeps ≡ first.keeps
  pub budget : s.budget ≡ first.budget

-- where the file was valid, a log of the session
abbrev pub OfEachLog : Session → (List ℕ → ℕ → List ℤ → Type 0) → Type 0
OfEachLog first P = (img : List ℕ) (columns : ℕ) (values : List ℤ) → Stands first (opened_log img columns values) → P img columns values

-- Of the file's log; a later piece that belongs to no flush changes nothing of what is flushed.
pub record Settled (img : List ℕ) (columns : ℕ) (values : List ℤ) (s : Session) (ws : List Write) (b : Batches) : Type 0 where
  pub of : IsLogOf img columns values s ws b
  pub settled : (n : ℕ) → flushed_in n values of.log.events ≡ values ++ values_of b.closed

-- The session's first pieces were put into the file, one after another, those of these batches, each before the disk failed. Before them
-- come those that were pending when it began.
pub record Stored (name : List ℕ) (first s : Session) (b : Batches) (v w : DiskView) : Type 0 where
  pub taken : HasTaken first s b
  pub puts : List (Write × ℕ)
  pub disk : LeavesFiles (option_map (after_puts name puts) v.told) v w
  pub since : AllAre v.faults (counts_of puts)
  pub begins : ComesFirst first.pending (writes_of puts ++ s.pending)
  pub logs : OfEachLog first (λ img columns values. Settled img columns values s (writes_of puts) b)

-- the session of a log that was stopped
pub record IsHalted (img : List ℕ) (columns : ℕ) (values : List ℤ) (name : List ℕ) (ws : List Write) (b : Batches) : Type 0 where
  pub session : Session
  pub stopped : session.stopped ≡ true
  pub named : session.name ≡ name
  pub of : IsLogOf img columns values session ws b

-- The disk failed: the puts that were done are the session's first pieces, of which those come first that were pending when it began.
-- Each of them came before the first fault.
pub record Broke (name : List ℕ) (first : Session) (b : Batches) (v w : DiskView) : Type 0 where
  pub puts : List (Write × ℕ)
  pub disk : LeavesFiles (option_map (after_puts name puts) v.told) v w
  pub since : AllAre v.faults (counts_of puts)
  pub rose : Rose v.faults w.faults
  pub begins : AgreesAtFirst first.pending (writes_of puts)
  pub logs : OfEachLog first (λ img columns values. IsHalted img columns values first.name (writes_of puts) b)

-- The session was closed: its first pieces are those that were pending when it began, and its last piece is the superblock without the
-- flags of writers, else as the session had it, but for its end. The disk did not fail.
pub record ClosedUp (name : List ℕ) (first : Session) (b : Batches) (v w : DiskView) : Type 0 where
  pub puts : List (Write × ℕ)
  pub disk : LeavesFiles (option_map (after_puts name puts) v.told) v w
  pub since : AllAre v.faults (counts_of puts)
  pub calm : w.faults ≡ v.faults
  pub begins : ComesFirst first.pending (writes_of puts)
  pub front : List Write
  pub root : Super
  pub last : writes_of puts ≡ front ++ record { at = 0; piece = super_bytes root } ∷ []
  pub reads : super_at (super_bytes root) ≡ Ok root
  pub root_is : root ≡ record (first.root) { end = root.end; flags = cleared first.root.flags }
  pub logs : OfEachLog first (λ img columns values. IsHalted img columns values first.name (writes_of puts) b)

-- ---- Why an input is not taken to its end

-- the line of this number is read behind those of these batches
pub record AtLine (columns : ℕ) (s : SourceView) (b : Batches) (n : ℕ) (line : List ℕ) : Type 0 where
  pub numbers : List (List ℤ)
  pub reads : ReadsLine columns s numbers line
  pub number : n ≡ length numbers + 1
  pub batches : b ≡ after_lines no_batches numbers

-- it has these values
pub record HasValues (columns : ℕ) (s : SourceView) (b : Batches) (n : ℕ) (values : List ℤ) : Type 0 where
  pub line : List ℕ
  pub at : AtLine columns s b n line
  pub spelled : number_line_of columns line ≡ Some values

-- its rows need so many chunks, more than the index has
pub record NeedsChunks (first : Session) (s : SourceView) (b : Batches) (chunks limit : ℕ) : Type 0 where
  pub number : ℕ
  pub values : List ℤ
  pub at : HasValues (columns_of first) s b number values
  pub session : Session
  pub taken : HasTaken first session b
  pub refused : append_refusal session values ≡ Some (appends.Chunks chunks limit)

-- a line without values was read behind those of these values
abbrev pub EmptyLine : ℕ → SourceView → List (List ℤ) → Type 0
EmptyLine columns s numbers = (line : List ℕ) × ReadsLine columns s numbers line × (number_line_of columns line ≡ Some [])

-- the file has no place for the batch that an empty line, or the end of the input, closes
pub record NeedsPlace (name : List ℕ) (first : Session) (s t : SourceView) (b : Batches) (v : DiskView) (full : Full) : Type 0 where
  pub numbers : List (List ℤ)
  pub batches : b ≡ after_lines no_batches numbers
  pub read : EmptyLine (columns_of first) s numbers ⊎ ReadsAll (columns_of first) s t numbers
  pub session : Session
  pub before : DiskView
  pub stored : Stored name first session b v before
  pub full_for : IsFullFor session full
  pub bounds : (log : Log) → Stands session log → NoPlace session log full

-- the file's tree has no room for a chunk of that batch
pub record NeedsDepth (name : List ℕ) (first : Session) (s t : SourceView) (b : Batches) (v : DiskView) : Type 0 where
  pub numbers : List (List ℤ)
  pub batches : b ≡ after_lines no_batches numbers
  pub read : EmptyLine (columns_of first) s numbers ⊎ ReadsAll (columns_of first) s t numbers
  pub session : Session
  pub before : DiskView
  pub stored : Stored name first session b v before
  pub deep_for : IsDeepFor session

-- by the error, once these batches were closed: the first line outside the grammar, the first value outside the type, too many
-- chunks, no place, no room in the tree; too many bytes, a source that failed; or want of memory
abbrev pub InputRefuses : List ℕ → Session → SourceView → SourceView → Batches → DiskView → ErrorLine → Type 0
InputRefuses name first s t b v (errors.Line n) = (line : List ℕ) × AtLine (columns_of first) s b n line × (number_line_of (columns_of first) line ≡ None)
InputRefuses name first s t b v (errors.Range n i x) = (values : List ℤ) × HasValues (columns_of first) s b n values × (first_outside first.dataset.int_type 0 values ≡ Some (i, x))
InputRefuses name first s t b v (errors.FullChunks chunks limit) = NeedsChunks first s b chunks limit
InputRefuses name first s t b v (errors.FullSpace at size limit) = NeedsPlace name first s t b v (record { at = at; size = size; limit = limit })
InputRefuses name first s t b v errors.Deep = NeedsDepth name first s t b v
InputRefuses name first s t b v (errors.Input limit) = (limit ≡ input_limit) × (numbers : List (List ℤ)) × ReadsTooMuch (columns_of first) s numbers × (b ≡ after_lines no_batches numbers)
InputRefuses name first s t b v errors.Source = Rose s.faults t.faults × (numbers : List (List ℤ)) × ReadsWhole (columns_of first) s t numbers × (b ≡ after_lines no_batches numbers)
InputRefuses name first s t b v errors.Memory = Unit {0}
InputRefuses name first s t b v e = ⊥

-- ---- The file

-- The session that begins over the file, which is there if the disk tells its files: an opened file has both flags of writers pending, one that is taken over has them.
-- What is retired stays so where that is asked for. Over a valid file it is that of the log to which nothing happened yet.
pub record IsOpenOver (by : Beginning) (name at : List ℕ) (limit budget : ℕ) (keeps : Bool) (v : DiskView) (first : Session) : Type 0 where
  pub there : IsThere v name
  pub opened : Session
  pub begun : HasBegunBy by at limit budget opened
  pub is : first ≡ record opened { keeps = keeps }
  pub exact : (img : List ℕ) → told_bytes v.told name ≡ Some img → IsBegunOver by img (length img) at limit budget opened
  pub stands : (img : List ℕ) (rows columns : ℕ) (values : List ℤ) (sm : Summary) → told_bytes v.told name ≡ Some img → Valid img at sm → Reads img at rows columns values
      → Stands first (opened_log img columns values)

-- the disk failed, or memory was wanting
abbrev pub IsFree : ErrorLine → Type 0
IsFree e = (e ≡ errors.Disk) ⊎ (e ≡ errors.Memory)

-- why no session begins over a file, where it is there
abbrev pub NotOpened : Beginning → List ℕ → Option (List ℕ) → ErrorLine → Type 0
NotOpened by at None e = e ≡ errors.Missing
NotOpened by at (Some img) e = (x : OpenError) × (open_line x ≡ e) × IsNotBegun by img (length img) at x

-- why a file is not opened: where it is read, it tells of no two looks that differ, of no rows that were seen before, and of no want of memory
abbrev pub IsOfOpen : ErrorLine → Type 0
IsOfOpen e = (e ≡ errors.Missing) ⊎ ((x : OpenError) × (open_line x ≡ e) × IsOpenKind x)

-- The file is not opened, and everything stays as it was.
pub record Unopened (by : Beginning) (name at : List ℕ) (v w : DiskView) (e : ErrorLine) : Type 0 where
  pub disk : LeavesFiles v.told v w
  pub exact : IfSome v.told (λ d. IsFree e ⊎ NotOpened by at (file d name) e)
  pub kinds : IsOfOpen e
  pub cause : e ≡ errors.Disk → Rose v.faults w.faults

-- The file is there, is valid, and reads as these values.
pub record Holds (name at : List ℕ) (w : DiskView) (columns : ℕ) (values : List ℤ) : Type 0 where
  pub bytes : List ℕ
  pub told : told_bytes w.told name ≡ Some bytes
  pub summary : Summary
  pub valid : Valid bytes at summary
  pub reads : Reads bytes at (length values / columns) columns values

-- where the file was there and valid, by the values that it read as
abbrev pub OfValid : List ℕ → List ℕ → DiskView → (ℕ → List ℤ → Type 0) → Type 0
OfValid name at v P = (img : List ℕ) (rows columns : ℕ) (values : List ℤ) (sm : Summary) → told_bytes v.told name ≡ Some img → Valid img at sm → Reads img at rows columns values → P columns values

-- The superblock is this one, but for its end.
pub record IsShut (name : List ℕ) (root : Super) (w : DiskView) : Type 0 where
  pub bytes : List ℕ
  pub told : told_bytes w.told name ≡ Some bytes
  pub end : ℕ
  pub super : super_at (range bytes 0 48) ≡ Ok (record root { end = end })

-- no flag of a writer is set: an opened file has the flags that it had, one that was taken over has lost both
abbrev pub ShutAgain : Beginning → List ℕ → List ℕ → DiskView → DiskView → Type 0
ShutAgain by name at v w = (img : List ℕ) (root : Super) → told_bytes v.told name ≡ Some img → super_at (range img 0 48) ≡ Ok root → HadFlags by root.flags × IsShut name (shut_by by root) w

-- ---- A sink that fails at a line

-- The sink failed at the line of the last of these batches: the lines of those before were written, then some first part of that one. No
-- value waits.
pub record StopsAtLine (columns rows : ℕ) (b : Batches) (k l : SinkView) : Type 0 where
  pub before : List (List ℤ)
  pub last : List ℤ
  pub closed : b.closed ≡ before ++ last ∷ []
  pub waiting : b.waiting ≡ []
  pub middle : SinkView
  pub gave : Gave (rows_lines columns rows before) k middle
  pub rose : Rose middle.faults l.faults
  pub some : GaveSome (count_text (rows_after columns rows b.closed)) middle l

-- ---- The whole append

-- The session that began was closed behind these batches: where the file was valid it is so, with their values behind its own.
pub record Closed (by : Beginning) (name at : List ℕ) (first : Session) (b : Batches) (v w : DiskView) : Type 0 where
  pub closed : ClosedUp name first b v w
  pub holds : OfValid name at v (λ columns values. Holds name at w columns (values ++ values_of b.closed))
  pub shut : ShutAgain by name at v w

-- The disk failed: no more was put, and where the file was valid it is so, with the values of the batches before.
pub record Broken (name at : List ℕ) (first : Session) (b : Batches) (v w : DiskView) : Type 0 where
  pub broke : Broke name first b v w
  pub holds : OfValid name at v (λ columns values. Holds name at w columns (values ++ values_of b.closed))

-- All was appended: each line is of numbers, and the end of the input closes the last batch.
pub record AppendsWhole (by : Beginning) (name at : List ℕ) (limit budget : ℕ) (keeps : Bool) (s t : SourceView) (v w : DiskView) (front last : List ℕ) : Type 0 where
  pub first : Session
  pub opened : IsOpenOver by name at limit budget keeps v first
  pub numbers : List (List ℤ)
  pub read : ReadsAll (columns_of first) s t numbers
  pub closed : Closed by name at first (close_batch (after_lines no_batches numbers)) v w
  pub holds : OfValid name at v (λ columns values. Holds name at w columns (values ++ values_of numbers))
  pub front_is : front ≡ lines_of first (close_batch (after_lines no_batches numbers)).closed
  pub last_is : last ≡ closed_text (rows_after (columns_of first) first.dataset.shape.rows (close_batch (after_lines no_batches numbers)).closed)

-- A refusal, behind which the session was closed: what waits for the end of its batch is dropped.
pub record AppendsSome (by : Beginning) (name at : List ℕ) (limit budget : ℕ) (keeps : Bool) (s t : SourceView) (v w : DiskView) (e : ErrorLine) (front last : List ℕ) : Type 0 where
  pub first : Session
  pub opened : IsOpenOver by name at limit budget keeps v first
  pub batches : Batches
  pub taken : AreTaken (columns_of first) s t batches
  pub refused : InputRefuses name first s t batches v e
  pub closed : Closed by name at first batches v w
  pub front_is : front ≡ lines_of first batches.closed
  pub last_is : last ≡ error_text e

-- The disk failed behind these batches.
pub record AppendsUpTo (by : Beginning) (name at : List ℕ) (limit budget : ℕ) (keeps : Bool) (s t : SourceView) (v w : DiskView) (front last : List ℕ) : Type 0 where
  pub first : Session
  pub opened : IsOpenOver by name at limit budget keeps v first
  pub batches : Batches
  pub taken : AreTaken (columns_of first) s t batches
  pub broken : Broken name at first batches v w
  pub front_is : front ≡ lines_of first batches.closed
  pub last_is : last ≡ error_text errors.Disk

-- what is written of a file that is not opened
pub record AppendsNone (by : Beginning) (name at : List ℕ) (s t : SourceView) (v w : DiskView) (e : ErrorLine) (front last : List ℕ) : Type 0 where
  pub unopened : Unopened by name at v w e
  pub unread : t ≡ s
  pub front_is : front ≡ []
  pub last_is : last ≡ error_text e

-- An append between two states of a source and a disk, by its answer and by what it writes: a line for each batch, and then a last line.
abbrev pub AppendsTo : Beginning → List ℕ → List ℕ → (limit budget : ℕ) → Bool → SourceView → SourceView → DiskView → DiskView → Result (Unit {0}) ErrorLine → List ℕ → List ℕ → Type 0
AppendsTo by name at limit budget keeps s t v w (Ok a) front last = AppendsWhole by name at limit budget keeps s t v w front last
AppendsTo by name at limit budget keeps s t v w (Err e) front last =
    AppendsNone by name at s t v w e front last ⊎ (AppendsSome by name at limit budget keeps s t v w e front last ⊎ ((e ≡ errors.Disk) × AppendsUpTo by name at limit budget keeps s t v w front last))

-- The sink failed at the line of a batch: the file has that batch, those before it, and no more. The session was closed behind it, unless
-- the disk failed at that.
pub record AppendsCut (by : Beginning) (name at : List ℕ) (limit budget : ℕ) (keeps : Bool) (s t : SourceView) (v w : DiskView) (k l : SinkView) : Type 0 where
  pub first : Session
  pub opened : IsOpenOver by name at limit budget keeps v first
  pub batches : Batches
  pub taken : AreTaken (columns_of first) s t batches
  pub stops : StopsAtLine (columns_of first) first.dataset.shape.rows batches k l
  pub left : Closed by name at first batches v w ⊎ Broken name at first batches v w

-- how an append ends: the lines of all its batches are written before the last line, or the sink fails at one of them
abbrev pub AppendEnds : Beginning → List ℕ → List ℕ → (limit budget : ℕ) → Bool → SourceView → SourceView → DiskView → DiskView → Status → SinkView → SinkView → Type 0
AppendEnds by name at limit budget keeps s t v w status k l =
    EndsBehind {A = Unit {0}} (AppendsTo by name at limit budget keeps s t v w) status k l ⊎ ((status ≡ statuses.Sink) × AppendsCut by name at limit budget keeps s t v w k l)
