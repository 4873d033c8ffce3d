-- What the calls of a session tell, and what they make of it.
use Rattle.std.specs.Prelude.{◌≡◌, ◌≢◌, ◌⊎◌, ℕ, ◌%◌, ◌<◌, ◌≤◌, nat_le, if◌then◌else◌, true, false, List, [], ◌∷◌, ◌++◌, length, drop, Option, Some, None, Result, Ok, Err, ℤ, IfOk, IfErr, OnOk, OnErr}
use Rattle.h5w_model.specs.Logs.{Log, and_now, appends, load, plans, shows}
use Rattle.h5w_model.specs.Superblock.{super_at, super_bytes}
use Rattle.h5w_model.specs.declared.piece.Write.{Write}
use Rattle.h5w_space.specs.declared.Full.{Full}
use Rattle.h5w_writer.specs.Early.{IsWithin, WrittenEarly, dirty_of}
use Rattle.h5w_writer.specs.Flushes.{SameBut}
use Rattle.h5w_writer.specs.Loads.{NoPlace}
use Rattle.h5w_writer.specs.Past.{IsNew}
use Rattle.h5w_writer.specs.Refusals.{IsDeepFor, IsFullFor, IsSpace, append_refusal, close_refusal, flush_refusal}
use Rattle.h5w_writer.specs.Sessions.{AddsValues, AfterPiece, AreReached, Session, TakesRows, closed_of, closed_root, cutting_of, rows_of, stopped_of, with_values}
use Rattle.h5w_writer.specs.Stands.{Stands}
use Rattle.h5w_writer.specs.Starts.{HasFlushed}
use Rattle.h5w_writer.specs.declared.refusal.AppendError.{AppendError}
use Rattle.h5w_writer.specs.declared.refusal.AppendError.TheVariants as appending
use Rattle.h5w_writer.specs.declared.refusal.CloseError.{CloseError}
use Rattle.h5w_writer.specs.declared.refusal.FlushError.{FlushError}
use Rattle.h5w_writer.specs.declared.refusal.FlushError.TheVariants as flushing
use Rattle.h5w_text.specs.Errors.{error_text}
use Rattle.h5w_text.specs.declared.error.ErrorLine.TheVariants as lines
use Rattle.h5w_writer_lines.specs.Lines.{append_line, close_line, flush_line, line_text}
use Rattle.h5w_writer_lines.specs.declared.lines.WriterLine.{WriterLine}
use Rattle.h5w_handles.specs.Codes.{misuse, no_memory, told}
use Rattle.h5w_writer_handles.specs.Tellings.{PutsLine, append_told, close_told, flush_told}
use Rattle.h5w_handles.specs.declared.code.H5wCode.TheVariants as codes
use Rattle.h5w_handles.specs.declared.code.H5wPlace.{H5wPlace}
use Rattle.h5w_handles.specs.declared.code.H5wTold.{H5wTold}

-- a number is done, or this is why not
abbrev pub answered : {E : Type 0} → (E → H5wTold) → Result ℕ E → H5wTold
answered why (Ok n) = told codes.Done 0 n
answered why (Err e) = why e

-- the line of a refusal is put; else the text stays
abbrev pub TellsLine : {A E : Type 0} → (E → WriterLine) → Result A E → (text left : List ℕ) → Type 0
TellsLine why (Ok a) text left = left ≡ text
TellsLine why (Err e) text left = PutsLine (line_text (why e)) text left

-- ---- Append

-- What appends whole rows: the session's answer is told, with the rows in all. Rows that were written early are pending. The line of a refusal
-- is that of an input whose first line has these values.
pub record AppendedRows (values : List ℤ) (text : List ℕ) (s : Session) (answer : H5wTold × List ℕ) (t : Session) : Type 0 where
  pub given : Result ℕ AppendError
  pub told : answer.0 ≡ answered append_told given
  pub line : TellsLine (append_line 1) given text answer.1
  pub added : OnOk given (AddsValues s values t)
  pub written : OnOk given (WrittenEarly (with_values s values) t)
  pub within : OnOk given (IsWithin t)
  pub early : OnOk given (t.pending ≢ [] → s.budget < dirty_of (with_values s values))
  pub rows : IfOk given (λ rows. rows ≡ rows_of t)
  pub unplanned : OnOk given (t.flushing ≡ false)
  pub stands : OnOk given ((log : Log) → Stands s log → Stands t (and_now (appends values) log))
  pub bound : OnOk given ((log : Log) → Stands s log → length t.pending ≤ load (cutting_of s) (and_now (appends values) log))
  pub over : OnOk given (t.pending ≢ [] → (log : Log) → Stands s log → s.budget < load (cutting_of s) (and_now (appends values) log))
  pub refused : (e : AppendError) → append_refusal s values ≡ Some e → given ≡ Err e
  pub causes : IfErr given (λ e. (append_refusal s values ≡ Some e) ⊎ (e ≡ appending.OutOfMemory))
  pub kept : OnErr given (t ≡ s)

-- Values that are no whole rows are refused with the columns, and as a line outside the grammar. Of others memory may be wanting before the
-- session is asked.
pub record Appended (values : List ℤ) (text : List ℕ) (s : Session) (answer : H5wTold × List ℕ) (t : Session) : Type 0 where
  pub partial : 0 < length values % s.dataset.shape.cols → (answer.0 ≡ told codes.Rows 0 s.dataset.shape.cols) × PutsLine (error_text (lines.Line 1)) text answer.1 × (t ≡ s)
  pub whole : length values % s.dataset.shape.cols ≡ 0 → ((answer.0 ≡ no_memory) × PutsLine (error_text lines.Memory) text answer.1 × (t ≡ s)) ⊎ AppendedRows values text s answer t

-- ---- Flush

-- The session's answer is told, with the pieces that are pending, or the line of a refusal.
pub record Flushed (text : List ℕ) (s : Session) (answer : H5wTold × List ℕ) (t : Session) : Type 0 where
  pub given : Result ℕ FlushError
  pub told : answer.0 ≡ answered flush_told given
  pub line : TellsLine flush_line given text answer.1
  pub flushed : OnOk given (TakesRows s t)
  pub planned : 0 < s.waits → OnOk given (HasFlushed s t)
  pub pieces : IfOk given (λ pieces. pieces ≡ length t.pending)
  pub some : 0 < s.waits → IfOk given (λ pieces. 1 ≤ pieces)
  pub nothing : s.waits ≡ 0 → OnOk given (t ≡ s)
  pub reached : 0 < s.waits → OnOk given (AreReached t)
  pub stands : IfOk given (λ pieces. (log : Log) → Stands s log → Stands t (and_now (plans pieces) log))
  pub bound : IfOk given (λ pieces. (log : Log) → Stands s log → pieces ≤ load (cutting_of s) log)
  pub refused : (e : FlushError) → flush_refusal s ≡ Some e → given ≡ Err e
  pub causes : IfErr given (λ e. (flush_refusal s ≡ Some e) ⊎ (IsSpace e ⊎ ((e ≡ flushing.Deep) ⊎ (e ≡ flushing.OutOfMemory))))
  pub full : (full : Full) → given ≡ Err (flushing.Space full) → IsFullFor s full
  pub deep : given ≡ Err flushing.Deep → IsDeepFor s
  pub shallow : (log : Log) → Stands s log → IsNew log → given ≢ Err flushing.Deep
  pub bounds : (full : Full) → given ≡ Err (flushing.Space full) → (log : Log) → Stands s log → NoPlace s log full
  pub kept : OnErr given (SameBut s t)
  pub left : OnErr given ((log : Log) → Stands s log → Stands t log)

-- ---- Pieces

-- where a piece is to be written, if it has no more bytes than there is room for
abbrev pub place_for : Write → ℕ → Option H5wPlace
place_for w room = if nat_le (length w.piece) room then Some (record { at = w.at; len = length w.piece }) else None

-- its bytes, in front of what else is there
abbrev pub bytes_for : Write → List ℕ → List ℕ
bytes_for w out = if nat_le (length w.piece) (length out) then w.piece ++ drop (length w.piece) out else out

-- so of the oldest of some pending pieces, if there is one
abbrev pub next_place : List Write → ℕ → Option H5wPlace
next_place [] room = None
next_place (w ∷ ws) room = place_for w room

abbrev pub next_out : List Write → List ℕ → List ℕ
next_out [] out = out
next_out (w ∷ ws) out = bytes_for w out

-- the place of the next piece and its bytes in front of what else is there; the session is as it was
pub record IsNextPiece (out : List ℕ) (s : Session) (answer : Option H5wPlace × List ℕ) (t : Session) : Type 0 where
  pub place : answer.0 ≡ next_place s.pending (length out)
  pub bytes : answer.1 ≡ next_out s.pending out
  pub same : t ≡ s

-- A piece is written, which tells how many are pending then. It is misuse exactly if none is pending.
pub record Written (s : Session) (answer : H5wTold) (t : Session) : Type 0 where
  pub none : s.pending ≡ [] → (answer ≡ misuse) × (t ≡ s)
  pub piece : (w : Write) (ws : List Write) → s.pending ≡ w ∷ ws → (answer ≡ told codes.Done 0 (length t.pending)) × AfterPiece s ws t
  pub stands : (w : Write) (ws : List Write) → s.pending ≡ w ∷ ws → (log : Log) → Stands s log → Stands t (and_now (shows w) log)

-- A piece failed: the session is stopped, and nothing is pending.
pub record Failed (s : Session) (answer : H5wTold) (t : Session) : Type 0 where
  pub told : answer ≡ told codes.Done 0 0
  pub session : t ≡ stopped_of s
  pub stands : (log : Log) → Stands s log → Stands t log

-- ---- The end

-- The session is closed, with one piece pending, unless it was stopped or pieces are pending.
pub record Closed (text : List ℕ) (s : Session) (answer : H5wTold × List ℕ) (t : Session) : Type 0 where
  pub refused : (e : CloseError) → close_refusal s ≡ Some e → (answer.0 ≡ close_told e) × PutsLine (line_text (close_line e)) text answer.1 × (t ≡ s)
  pub closed : close_refusal s ≡ None → (answer.0 ≡ told codes.Done 0 (length t.pending)) × (answer.1 ≡ text) × (t ≡ closed_of s)
  pub reads : close_refusal s ≡ None → super_at (super_bytes (closed_root s)) ≡ Ok (closed_root s)
  pub stands : (log : Log) → Stands s log → Stands t log

-- What is retired stays out of use from now on.
pub record KeepsRetired (s : Session) (answer : H5wTold) (t : Session) : Type 0 where
  pub told : answer ≡ told codes.Done 0 0
  pub session : t ≡ record s { keeps = true }
  pub stands : (log : Log) → Stands s log → Stands t log
