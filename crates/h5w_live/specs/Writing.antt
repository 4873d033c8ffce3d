-- A writer's session over its seat: what it has written, and the lines that tell of it.
use Rattle.std.specs.Prelude.{◌≡◌, ℕ, ◌+◌, ◌*◌, ◌/◌, ◌<◌, ◌≤◌, false, true, List, [], ◌∷◌, ◌++◌, length, take, get_or, ℤ, nat_lt, if◌then◌else◌, Option, Some, None, Ok}
use Rattle.h5w_model.specs.Agrees.{FlushesAgree, values_in}
use Rattle.h5w_model.specs.Lawful.{first_outside}
use Rattle.h5w_model.specs.Logs.{Cutting, Happening, Log, appended, appends, flushed_rows, needed_chunks, plans}
use Rattle.h5w_model.specs.Tables.{format_limits, limit_of}
use Rattle.h5w_model.specs.declared.piece.Write.{Write}
use Rattle.h5w_model.specs.declared.report.FlushLine.{FlushLine}
use Rattle.h5w_model.specs.declared.root.Super.{Super}
use Rattle.h5w_creation_laws.specs.CreatedFiles.{CreatedFile, IsCreatable, created_log, created_writes, described_of}
use Rattle.h5w_writer.specs.Creations.{IsCreated, log_of}
use Rattle.h5w_writer.specs.Loads.{NoPlace}
use Rattle.h5w_writer.specs.Refusals.{IsFullFor, append_refusal}
use Rattle.h5w_writer.specs.Sessions.{Session, with_rows}
use Rattle.h5w_writer.specs.Stands.{Stands}
use Rattle.h5w_writer.specs.declared.refusal.AppendError.{AppendError}
use Rattle.h5w_writer.specs.declared.refusal.AppendError.TheVariants as errors
use Rattle.h5w_writer.specs.declared.refusal.FlushError.{FlushError}
use Rattle.h5w_writer.specs.declared.refusal.FlushError.TheVariants as flushes
use Rattle.h5w_space.specs.declared.Full.{Full}
use Rattle.h5w_shared.specs.Seats.{SeatView}
use Rattle.h5w_shared.specs.Threads.{IsLogOf}
use Rattle.h5w_model.specs.Superblock.{super_at, super_bytes}
use Rattle.h5w_live.specs.declared.writing.Halt.{Halt}
use Rattle.h5w_live.specs.declared.writing.Halt.TheVariants as halts
use Rattle.h5w_live_laws.specs.Lines.{TellsFlushes, pieces_in, rows_told}
use Rattle.h5w_reader_laws.specs.Showing.{showing}

-- ---- Batches

-- these values are whole rows of so many columns; no values are none
abbrev pub AreWholeRows : ℕ → List ℤ → Type 0
AreWholeRows columns values = (rows : ℕ) × (length values ≡ rows * columns)

-- so is each batch
abbrev pub AreBatches : ℕ → List (List ℤ) → Type 0
AreBatches columns [] = Unit {0}
AreBatches columns (values ∷ batches) = AreWholeRows columns values × AreBatches columns batches

-- how the rows of a file are cut into chunks
abbrev pub cutting_for : CreatedFile → Cutting
cutting_for f = record { chunk_rows = f.chunk_rows; chunk_columns = f.chunk_cols; columns = f.columns; value_size = f.int_type.size }

-- ---- The seat

-- the seat has seen what it had seen, and has no less room
pub record StaysSeated (old new : SeatView) : Type 0 where
  pub image : new.image ≡ old.image
  pub seen : new.seen ≡ old.seen
  pub pieces : old.pieces ≤ new.pieces
  pub end : old.end ≤ new.end

-- room for what is pending and one piece more, up to the file's end
pub record HasRoom (s : Session) (v : SeatView) : Type 0 where
  pub pieces : length s.pending + 1 ≤ v.pieces
  pub end : s.places.end ≤ v.end

-- it has written these pieces, each of which used the room of one
pub record HasWritten (ws : List Write) (old new : SeatView) : Type 0 where
  pub image : new.image ≡ old.image
  pub seen : new.seen ≡ old.seen ++ ws
  pub pieces : old.pieces ≤ new.pieces + length ws
  pub end : old.end ≤ new.end

-- room for what is pending
pub record HasPlaces (s : Session) (v : SeatView) : Type 0 where
  pub pieces : length s.pending ≤ v.pieces
  pub end : s.places.end ≤ v.end

-- What happened behind these events is that the batches were put, one behind another, and nothing else: each that has values was appended,
-- what was written of it early became visible, a flush planned some pieces, and these became visible.
abbrev pub ArePut : List Happening → List (List ℤ) → List Happening → Type 0
ArePut before [] now = now ≡ before
ArePut before ([] ∷ batches) now = ArePut before batches now
ArePut before ((v ∷ vs) ∷ batches) now =
    (early : List Write) × (ws : List Write) × ArePut (showing ws (plans (length ws) ∷ showing early (appends (v ∷ vs) ∷ before))) batches now

-- ---- The session

-- The session creates this file, and what the seat has seen is the pieces of its log, those of the creation among them.
pub record Writes (f : CreatedFile) (s : Session) (v : SeatView) : Type 0 where
  pub log : Log
  pub stands : Stands s log
  pub is : IsCreatable f
  pub new : log ≡ log_of f log.events
  pub seat : IsLogOf v log
  pub begun : length (created_writes f) ≤ length v.seen
  pub name : s.name ≡ f.name
  pub dataset : s.dataset ≡ with_rows s.dataset.shape.rows (described_of f)

-- The session is about to create this file, which may have so many bytes: the pieces of the creation are pending.
pub record IsCreating (f : CreatedFile) (most : ℕ) (s : Session) : Type 0 where
  pub is : IsCreatable f
  pub created : IsCreated f most s
  pub stands : Stands s (created_log f)

-- Values were appended, and what was written of them early became visible: nothing is pending.
pub record HasAppended (values : List ℤ) (early : List Write) (s t : Session) (v x : SeatView) : Type 0 where
  pub name : t.name ≡ s.name
  pub root : t.root ≡ s.root
  pub dataset : t.dataset ≡ s.dataset
  pub waits : t.waits ≡ s.waits + length values / s.dataset.shape.cols
  pub pending : t.pending ≡ []
  pub stopped : t.stopped ≡ s.stopped
  pub limit : t.places.limit ≡ s.places.limit
  pub stands : (log : Log) → Stands s log → Stands t (record log { events = showing early (appends values ∷ log.events) })
  pub image : x.image ≡ v.image
  pub seen : x.seen ≡ v.seen ++ early

-- All pieces of these batches are visible, and the lines tell of their flushes: nothing is pending or waits, all rows are committed, and
-- nothing else happened since the creation. The file may have so many bytes.
pub record HasFlushed (f : CreatedFile) (most : ℕ) (done : List (List ℤ)) (s : Session) (v : SeatView) (lines : List FlushLine) : Type 0 where
  pub writes : Writes f s v
  pub put : ArePut (showing (created_writes f) []) done writes.log.events
  pub batches : AreBatches f.columns done
  pub rows : length (values_in done) ≡ s.dataset.shape.rows * f.columns
  pub few : needed_chunks (cutting_for f) s.dataset.shape.rows ≤ limit_of format_limits f.index
  pub waits : s.waits ≡ 0
  pub pending : s.pending ≡ []
  pub settled : s.flushing ≡ false
  pub committed : s.committed ≡ s.dataset.shape.rows
  pub going : s.stopped ≡ false
  pub flags : s.root.flags ≡ 5
  pub limit : s.places.limit ≡ most
  pub room : HasRoom s v
  pub appended : appended writes.log ≡ values_in done
  pub fit : first_outside f.int_type 0 (values_in done) ≡ None
  pub agree : FlushesAgree f.columns (length (created_writes f)) 0 done lines
  pub tells : TellsFlushes writes.log lines
  pub last : pieces_in (length (created_writes f)) lines ≤ length v.seen
  pub told : rows_told 0 lines ≡ s.dataset.shape.rows

-- The session was closed after all pieces of these batches were visible: the last piece is the superblock with flags 0, by which nobody
-- writes the file.
pub record HasClosed (f : CreatedFile) (done : List (List ℤ)) (s : Session) (v : SeatView) (lines : List FlushLine) : Type 0 where
  pub writes : Writes f s v
  pub stopped : s.stopped ≡ true
  pub pending : s.pending ≡ []
  pub batches : AreBatches f.columns done
  pub rows : length (values_in done) ≡ s.committed * f.columns
  pub appended : appended writes.log ≡ values_in done
  pub fit : first_outside f.int_type 0 (values_in done) ≡ None
  pub agree : FlushesAgree f.columns (length (created_writes f)) 0 done lines
  pub tells : TellsFlushes writes.log lines
  pub last : pieces_in (length (created_writes f)) lines ≤ length v.seen
  pub before : List Write
  pub root : Super
  pub pieces : v.seen ≡ before ++ record { at = 0; piece = super_bytes root } ∷ []
  pub reads : super_at (super_bytes root) ≡ Ok root
  pub flags : root.flags ≡ 0

-- ---- Refusals

-- so many rows need more chunks than the file's index has
abbrev pub too_many : CreatedFile → ℕ → Option AppendError
too_many f rows =
    if nat_lt (limit_of format_limits f.index) (needed_chunks (cutting_for f) rows)
    then Some (errors.Chunks (needed_chunks (cutting_for f) rows) (limit_of format_limits f.index)) else None

-- Why a batch is not appended behind so many values, but for the image and memory: a value is outside the type, or the rows need too many
-- chunks.
abbrev pub batch_refusal : CreatedFile → ℕ → List ℤ → Option AppendError
batch_refusal f before [] = None
batch_refusal f before (v ∷ vs) =
    elim (first_outside f.int_type 0 (v ∷ vs)) [ Some x ↦ Some (errors.OutOfRange x.0 x.1) | None ↦ too_many f ((before + length (v ∷ vs)) / f.columns) ]

-- the first batch that is refused, by its number from this one on, and why
abbrev pub first_refused : CreatedFile → (before batch : ℕ) → List (List ℤ) → Option (ℕ × AppendError)
first_refused f before batch [] = None
first_refused f before batch (vs ∷ rest) =
    elim (batch_refusal f before vs) [ Some e ↦ Some (batch, e) | None ↦ first_refused f (before + length vs) (batch + 1) rest ]

-- The batch was appended behind these, which were flushed, what was written of it early became visible, and nothing else happened since the
-- creation. The file, of so many bytes at most, has no place for what comes next of it in turn, a new chunk or a block of the index, within
-- the bounds by the loads of every log of the session.
pub record LacksPlace (f : CreatedFile) (most : ℕ) (done : List (List ℤ)) (batch : List ℤ) (full : Full) : Type 0 where
  pub session : Session
  pub log : Log
  pub stands : Stands session log
  pub new : log ≡ log_of f log.events
  pub before : List Happening
  pub put : ArePut (showing (created_writes f) []) done before
  pub early : List Write
  pub events : log.events ≡ showing early (appends batch ∷ before)
  pub dataset : session.dataset ≡ with_rows session.dataset.shape.rows (described_of f)
  pub places : session.places.limit ≡ most
  pub limit : full.limit ≡ most
  pub appended : appended log ≡ values_in done ++ batch
  pub flushed : flushed_rows log ≡ length (values_in done) / f.columns
  pub full_for : IsFullFor session full
  pub lacks : (any : Log) → Stands session any → NoPlace session any full

-- what halts a batch whose values are not appended; none is appended to a session that is stopped or busy
abbrev pub append_halt : AppendError → Halt
append_halt errors.Stopped = halts.Failed
append_halt (errors.Busy pending) = halts.Failed
append_halt (errors.OutOfRange index value) = halts.OutOfRange index value
append_halt (errors.Chunks chunks limit) = halts.Chunks chunks limit
append_halt errors.Failed = halts.Failed
append_halt errors.OutOfMemory = halts.OutOfMemory

-- why values are not appended
abbrev pub HaltsAppend : Session → List ℤ → Halt → Type 0
HaltsAppend s values (halts.OutOfRange index value) = append_refusal s values ≡ Some (errors.OutOfRange index value)
HaltsAppend s values (halts.Chunks chunks limit) = append_refusal s values ≡ Some (errors.Chunks chunks limit)
HaltsAppend s values (halts.Space full) = ⊥
HaltsAppend s values halts.Failed = Unit {0}
HaltsAppend s values halts.OutOfMemory = Unit {0}

-- what halts a batch whose flush is not planned; none is planned by a session that is stopped or busy, and the index is one that was created
abbrev pub flush_halt : FlushError → Halt
flush_halt flushes.Stopped = halts.Failed
flush_halt (flushes.Busy pending) = halts.Failed
flush_halt (flushes.Space full) = halts.Space full
flush_halt flushes.Deep = halts.Failed
flush_halt flushes.Failed = halts.Failed
flush_halt flushes.OutOfMemory = halts.OutOfMemory

-- why a flush is not planned
abbrev pub HaltsFlush : Session → Halt → Type 0
HaltsFlush s (halts.OutOfRange index value) = ⊥
HaltsFlush s (halts.Chunks chunks limit) = ⊥
HaltsFlush s (halts.Space full) = IsFullFor s full × ((log : Log) → Stands s log → NoPlace s log full)
HaltsFlush s halts.Failed = Unit {0}
HaltsFlush s halts.OutOfMemory = Unit {0}

-- why a batch was not flushed behind these
abbrev pub Refuses : CreatedFile → ℕ → List (List ℤ) → List ℤ → Halt → Type 0
Refuses f most done batch (halts.OutOfRange index value) = batch_refusal f (length (values_in done)) batch ≡ Some (errors.OutOfRange index value)
Refuses f most done batch (halts.Chunks chunks limit) = batch_refusal f (length (values_in done)) batch ≡ Some (errors.Chunks chunks limit)
Refuses f most done batch (halts.Space full) = (batch_refusal f (length (values_in done)) batch ≡ None) × LacksPlace f most done batch full
Refuses f most done batch halts.Failed = Unit {0}
Refuses f most done batch halts.OutOfMemory = Unit {0}

-- a batch for which the file has no place, behind others that were flushed: neither it nor they are refused
pub record IsFullAt (f : CreatedFile) (most : ℕ) (bs : List (List ℤ)) (batch : ℕ) (full : Full) : Type 0 where
  pub before : ℕ
  pub number : batch ≡ before + 1
  pub within : before < length bs
  pub accepted : first_refused f 0 1 (take batch bs) ≡ None
  pub lacks : LacksPlace f most (take before bs) (get_or bs before []) full

-- why the batch of this number was not flushed: it is the first that is refused, or the file has no place for it, or it was no fault of its values
abbrev pub Explains : CreatedFile → ℕ → List (List ℤ) → ℕ → Halt → Type 0
Explains f most bs batch (halts.OutOfRange index value) = first_refused f 0 1 bs ≡ Some (batch, errors.OutOfRange index value)
Explains f most bs batch (halts.Chunks chunks limit) = first_refused f 0 1 bs ≡ Some (batch, errors.Chunks chunks limit)
Explains f most bs batch (halts.Space full) = IsFullAt f most bs batch full
Explains f most bs batch halts.Failed = Unit {0}
Explains f most bs batch halts.OutOfMemory = Unit {0}
