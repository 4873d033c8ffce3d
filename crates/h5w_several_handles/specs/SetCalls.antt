-- What the calls of a session of several datasets tell, and what they make of it.
use Rattle.std.specs.Prelude.{◌≡◌, ◌≢◌, ◌⊎◌, ℕ, ◌%◌, ◌<◌, ◌≤◌, List, [], ◌∷◌, length, slice_get, Option, Some, Result, Ok, Err, ℤ, IfOk, IfErr, OnOk, OnErr, MatchOption}
use Rattle.h5w_model.specs.Several.{FileLog, appends_to, plans_each, shows_all}
use Rattle.h5w_model.specs.Superblock.{super_at, super_bytes}
use Rattle.h5w_model.specs.declared.piece.Write.{Write}
use Rattle.h5w_space.specs.declared.Full.{Full}
use Rattle.h5w_writer.specs.PartLaws.{super_piece}
use Rattle.h5w_writer.specs.Refusals.{IsSpace}
use Rattle.h5w_writer.specs.Sessions.{Session, rows_of}
use Rattle.h5w_writer.specs.declared.refusal.AppendError.{AppendError}
use Rattle.h5w_writer.specs.declared.refusal.AppendError.TheVariants as appending
use Rattle.h5w_writer.specs.declared.refusal.CloseError.{CloseError}
use Rattle.h5w_writer.specs.declared.refusal.CloseError.TheVariants as closing
use Rattle.h5w_writer.specs.declared.refusal.FlushError.{FlushError}
use Rattle.h5w_writer.specs.declared.refusal.FlushError.TheVariants as flushing
use Rattle.h5w_several_writer.specs.Flows.{KeepsParts, PlansAll}
use Rattle.h5w_several_writer.specs.Refusals.{IsDeepAmong, IsFullAmong, NoPlaceAll, append_refusal_in, close_refusal_of, flush_refusal_of}
use Rattle.h5w_several_writer_laws.specs.Sessions.{AfterPieceOf, AppendsTo, FlushesAll, SameButHeld, all_pending, closed_all, closed_super, counts_of, keeping, stopped_all}
use Rattle.h5w_several_writer_laws.specs.Standing.{StandsAll, and_then}
use Rattle.h5w_text.specs.Errors.{error_text}
use Rattle.h5w_text.specs.declared.error.ErrorLine.TheVariants as lines
use Rattle.h5w_writer_lines.specs.Lines.{append_line, close_line, flush_line}
use Rattle.h5w_handles.specs.Codes.{misuse, no_memory, told}
use Rattle.h5w_handles.specs.Texts.{laid}
use Rattle.h5w_handles.specs.declared.code.H5wCode.TheVariants as codes
use Rattle.h5w_handles.specs.declared.code.H5wPlace.{H5wPlace}
use Rattle.h5w_handles.specs.declared.code.H5wTold.{H5wTold}
use Rattle.h5w_handles.specs.declared.several.SeveralState.{SeveralState}
use Rattle.h5w_writer_handles.specs.Tellings.{PutsLine, append_told, close_told, flush_told}
use Rattle.h5w_writer_handles.specs.WriterCalls.{TellsLine, answered, next_out, next_place}
use Rattle.h5w_several_handles.specs.Sets.{pending_of}

-- ---- Append

-- What appends whole rows to dataset d, which is this part. As long as pieces of the creation are left it is busy with them; else it is the session's
-- append.
pub record AppendsRows (d : ℕ) (values : List ℤ) (part : Session) (s : SeveralState) (given : Result ℕ AppendError) (t : SeveralState) : Type 0 where
  pub creating : s.first.items ≢ [] → given ≡ Err (appending.Busy (length s.first.items))
  pub first : t.first ≡ s.first
  pub added : OnOk given (AppendsTo d values s.session t.session)
  pub rows : IfOk given (λ rows. (p : Session) → slice_get t.session.parts d ≡ Some p → rows ≡ rows_of p)
  pub stands : OnOk given ((log : FileLog) → StandsAll s.session log → StandsAll t.session (and_then (appends_to d values) log))
  pub refused : (e : AppendError) → s.first.items ≡ [] → append_refusal_in s.session part values ≡ Some e → given ≡ Err e
  pub causes : s.first.items ≡ [] → IfErr given (λ e. (append_refusal_in s.session part values ≡ Some e) ⊎ (e ≡ appending.OutOfMemory))
  pub kept : OnErr given (t ≡ s)

-- its answer is told, with the rows in all, or the line of a refusal
pub record AppendedRowsTo (d : ℕ) (values : List ℤ) (part : Session) (text : List ℕ) (s : SeveralState) (answer : H5wTold × List ℕ) (t : SeveralState) : Type 0 where
  pub given : Result ℕ AppendError
  pub told : answer.0 ≡ answered append_told given
  pub line : TellsLine (append_line 1) given text answer.1
  pub appends : AppendsRows d values part s given t

-- Values that are no whole rows are refused with the columns, and as a line outside the grammar. Of others memory may be wanting before the
-- session is asked.
pub record AppendedTo (d : ℕ) (values : List ℤ) (part : Session) (text : List ℕ) (s : SeveralState) (answer : H5wTold × List ℕ) (t : SeveralState) : Type 0 where
  pub partial : 0 < length values % part.dataset.shape.cols → (answer.0 ≡ told codes.Rows 0 part.dataset.shape.cols) × PutsLine (error_text (lines.Line 1)) text answer.1 × (t ≡ s)
  pub whole : length values % part.dataset.shape.cols ≡ 0 → ((answer.0 ≡ no_memory) × PutsLine (error_text lines.Memory) text answer.1 × (t ≡ s)) ⊎ AppendedRowsTo d values part text s answer t

-- it is misuse exactly if there is no such dataset
pub record AppendedSet (d : ℕ) (values : List ℤ) (text : List ℕ) (s : SeveralState) (answer : H5wTold × List ℕ) (t : SeveralState) : Type 0 where
  pub outside : length s.session.parts ≤ d → (answer.0 ≡ misuse) × (answer.1 ≡ text) × (t ≡ s)
  pub inside : (part : Session) → slice_get s.session.parts d ≡ Some part → AppendedTo d values part text s answer t

-- ---- Flush

-- As long as pieces of the creation are left it is busy with them; else it is the session's flush.
pub record PlansSet (s : SeveralState) (given : Result (List ℕ) FlushError) (t : SeveralState) : Type 0 where
  pub creating : s.first.items ≢ [] → (given ≡ Err (flushing.Busy (length s.first.items))) × (t ≡ s)
  pub first : t.first ≡ s.first
  pub flushed : OnOk given (FlushesAll s.session t.session)
  pub counts : IfOk given (λ counts. counts ≡ counts_of t.session.parts)
  pub rows : OnOk given (PlansAll s.session t.session)
  pub stands : IfOk given (λ counts. (log : FileLog) → StandsAll s.session log → StandsAll t.session (and_then (plans_each counts) log))
  pub refused : (e : FlushError) → s.first.items ≡ [] → flush_refusal_of s.session ≡ Some e → given ≡ Err e
  pub causes : s.first.items ≡ [] → IfErr given (λ e. (flush_refusal_of s.session ≡ Some e) ⊎ (IsSpace e ⊎ ((e ≡ flushing.Deep) ⊎ (e ≡ flushing.OutOfMemory))))
  pub full : (full : Full) → given ≡ Err (flushing.Space full) → IsFullAmong s.session.root s.session.places s.session.parts full
  pub bound : (full : Full) → given ≡ Err (flushing.Space full) → (log : FileLog) → StandsAll s.session log → NoPlaceAll s.session log full
  pub deep : given ≡ Err flushing.Deep → IsDeepAmong s.session.parts
  pub kept : s.first.items ≡ [] → OnErr given (SameButHeld s.session t.session)
  pub left : OnErr given ((log : FileLog) → StandsAll s.session log → StandsAll t.session log)

-- so many pieces are pending, or this is why not
abbrev pub planned_told : Result (List ℕ) FlushError → ℕ → H5wTold
planned_told (Ok counts) pieces = told codes.Done 0 pieces
planned_told (Err e) pieces = flush_told e

-- how many each dataset has goes in front of what else is there
abbrev pub PutsCounts : Result (List ℕ) FlushError → (counts left : List ℕ) → Type 0
PutsCounts (Ok each) counts left = left ≡ laid each counts
PutsCounts (Err e) counts left = left ≡ counts

-- its answer is told, with the pieces that are pending, in all and of each dataset, or the line of a refusal
pub record FlushedSet (counts text : List ℕ) (s : SeveralState) (answer : H5wTold × List ℕ × List ℕ) (t : SeveralState) : Type 0 where
  pub given : Result (List ℕ) FlushError
  pub told : answer.0 ≡ planned_told given (length (all_pending t.session.parts))
  pub each : PutsCounts given counts answer.1
  pub line : TellsLine flush_line given text answer.2
  pub plans : PlansSet s given t

-- ---- Pieces

-- the place of the next piece and its bytes in front of what else is there; all stays
pub record IsNextOf (out : List ℕ) (s : SeveralState) (answer : Option H5wPlace × List ℕ) (t : SeveralState) : Type 0 where
  pub place : answer.0 ≡ next_place (pending_of s) (length out)
  pub bytes : answer.1 ≡ next_out (pending_of s) out
  pub same : t ≡ s

-- A piece is written, which tells how many are pending then. It is misuse exactly if none is pending. The pieces of the creation come first, and the
-- session stays meanwhile.
pub record WrittenSet (s : SeveralState) (answer : H5wTold) (t : SeveralState) : Type 0 where
  pub none : pending_of s ≡ [] → (answer ≡ misuse) × (t ≡ s)
  pub told : pending_of s ≢ [] → answer ≡ told codes.Done 0 (length (pending_of t))
  pub created : (w : Write) (ws : List Write) → s.first.items ≡ w ∷ ws → (t.first.items ≡ ws) × (t.session ≡ s.session)
  pub first : s.first.items ≡ [] → t.first ≡ s.first
  pub piece : (w : Write) (ws : List Write) → s.first.items ≡ [] → all_pending s.session.parts ≡ w ∷ ws → AfterPieceOf w s.session t.session × (all_pending t.session.parts ≡ ws)
  pub parts : s.first.items ≡ [] → all_pending s.session.parts ≢ [] → KeepsParts s.session t.session
  pub stands : (w : Write) (ws : List Write) → s.first.items ≡ [] → all_pending s.session.parts ≡ w ∷ ws → (log : FileLog) → StandsAll s.session log → StandsAll t.session (and_then (shows_all w) log)

-- A piece failed: the session is stopped, and nothing is pending.
pub record FailedSet (s : SeveralState) (answer : H5wTold) (t : SeveralState) : Type 0 where
  pub told : answer ≡ told codes.Done 0 0
  pub first : t.first.items ≡ []
  pub session : t.session ≡ stopped_all s.session
  pub stands : (log : FileLog) → StandsAll s.session log → StandsAll t.session log

-- ---- The end

-- As long as pieces of the creation are left it is busy with them; else it is the session's close.
pub record EndsSet (s : SeveralState) (given : Result (Unit {0}) CloseError) (t : SeveralState) : Type 0 where
  pub creating : s.first.items ≢ [] → given ≡ Err (closing.Busy (length s.first.items))
  pub first : t.first ≡ s.first
  pub refused : s.first.items ≡ [] → MatchOption (close_refusal_of s.session) (given ≡ Ok tt) (λ e. given ≡ Err e)
  pub closed : OnOk given (t.session ≡ closed_all s.session)
  pub pending : OnOk given (all_pending t.session.parts ≡ super_piece (closed_super s.session) ∷ [])
  pub reads : OnOk given (super_at (super_bytes (closed_super s.session)) ≡ Ok (closed_super s.session))
  pub stands : OnOk given ((log : FileLog) → StandsAll s.session log → StandsAll t.session log)
  pub kept : OnErr given (t ≡ s)

-- one piece is pending, or this is why not
abbrev pub ended_told : Result (Unit {0}) CloseError → H5wTold
ended_told (Ok u) = told codes.Done 0 1
ended_told (Err e) = close_told e

-- its answer is told, with the piece that is pending, or the line of a refusal
pub record ClosedSet (text : List ℕ) (s : SeveralState) (answer : H5wTold × List ℕ) (t : SeveralState) : Type 0 where
  pub given : Result (Unit {0}) CloseError
  pub told : answer.0 ≡ ended_told given
  pub line : TellsLine close_line given text answer.1
  pub ends : EndsSet s given t

-- What is retired stays out of use from now on.
pub record KeepsSet (s : SeveralState) (answer : H5wTold) (t : SeveralState) : Type 0 where
  pub told : answer ≡ told codes.Done 0 0
  pub first : t.first ≡ s.first
  pub session : t.session ≡ keeping s.session
  pub stands : (log : FileLog) → StandsAll s.session log → StandsAll t.session log

-- ---- Numbers

-- a number of dataset d, and 0 if there is none; all stays
pub record CountsOf (f : Session → ℕ) (d : ℕ) (s : SeveralState) (n : ℕ) (t : SeveralState) : Type 0 where
  pub outside : length s.session.parts ≤ d → n ≡ 0
  pub inside : (part : Session) → slice_get s.session.parts d ≡ Some part → n ≡ f part
  pub same : t ≡ s
