-- How the command that runs a writer and its readers in threads ends.
use Rattle.std.specs.Prelude.{◌≡◌, ◌⊎◌, ℕ, List, None, Result, Ok, Err}
use Rattle.h5w_model.specs.Causes.{Rose}
use Rattle.h5w_shared.specs.Seats.{SeatView}
use Rattle.h5w_text.specs.Errors.{error_text}
use Rattle.h5w_text.specs.Statuses.{number_of, status_of}
use Rattle.h5w_text.specs.Streams.{Gave, GaveSome, SinkView, SourceView}
use Rattle.h5w_text.specs.declared.error.ErrorLine.TheVariants as errors
use Rattle.h5w_text.specs.declared.status.Status.TheVariants as statuses
use Rattle.h5w_batches.specs.Batches.{batches_of}
use Rattle.h5w_batches.specs.Inputs.{HasNumbers}
use Rattle.h5w_live.specs.Writing.{IsFullAt, first_refused}
use Rattle.h5w_live.specs.declared.report.LiveReport.{LiveReport}
use Rattle.h5w_running.specs.Runs.{Asked, LacksRoomAt, RefusesBy, Rooms, Tells}
use Rattle.h5w_running.specs.declared.ended.Ended.{Ended}
use Rattle.h5w_running.specs.declared.ended.Ended.TheVariants as ends
use Rattle.h5w_running.specs.declared.refusal.Refusal.{Refusal}
use Rattle.h5w_running.specs.declared.refusal.Refusal.TheVariants.{Error, Image}

-- the number with which the program ends
abbrev pub ended_number : Ended → ℕ
ended_number (ends.With status) = number_of status
ended_number (ends.Image worn) = 10

-- ---- An answer, its text and its end

abbrev pub refusal_text : Refusal → List ℕ
refusal_text (Error e) = error_text e
refusal_text (Image worn) = error_text errors.Image

-- a report with all done, and a refusal; that of a failed image keeps its seat
abbrev pub ended_by : Result LiveReport Refusal → Ended
ended_by (Ok r) = ends.With statuses.Done
ended_by (Err (Error e)) = ends.With (status_of e)
ended_by (Err (Image worn)) = ends.Image worn

-- what a run comes to, and its text
abbrev pub ComesBy : Rooms → Asked → SourceView → SourceView → Result LiveReport Refusal → List ℕ → Type 0
ComesBy Lacks a s t (Ok r) text = Tells a s t r text
ComesBy Lacks a s t (Err e) text = RefusesBy Lacks a s t e × (text ≡ refusal_text e)

abbrev pub ComesTo : Asked → SourceView → SourceView → Result LiveReport Refusal → List ℕ → Type 0
ComesTo = ComesBy IsFullAt

-- the text was written, and that is the end; or the sink failed behind some first part of it
pub data Ends (text : List ℕ) (ended result : Ended) (k l : SinkView) : Type 0 where
  written : result ≡ ended → Gave text k l → Ends text ended result k l
  broken : result ≡ ends.With statuses.Sink → Rose k.faults l.faults → GaveSome text k l → Ends text ended result k l

-- What the command leaves of its source and its sink: it came to an answer, whose text was written, unless the sink failed.
pub record LiveEndsBy (Lacks : Rooms) (a : Asked) (result : Ended) (s t : SourceView) (k l : SinkView) : Type 0 where
  pub answer : Result LiveReport Refusal
  pub text : List ℕ
  pub comes : ComesBy Lacks a s t answer text
  pub ended : Ends text (ended_by answer) result k l

-- by what it means in words of a log that a file has no place
abbrev pub LiveTells : Asked → Ended → SourceView → SourceView → SinkView → SinkView → Type 0
LiveTells = LiveEndsBy LacksRoomAt

-- and what it means of a session's own state
abbrev pub LiveEnds : Asked → Ended → SourceView → SourceView → SinkView → SinkView → Type 0
LiveEnds = LiveEndsBy IsFullAt

-- ---- Where nothing stands in its way

-- a source tells an input that is not too long, all of whose lines have values, and no batch of theirs is refused
pub record HasRows (a : Asked) (s : SourceView) : Type 0 where
  pub has : HasNumbers a.file.columns s
  pub accepted : first_refused a.file 0 1 (batches_of has.numbers) ≡ None

-- Where neither source nor sink nor image failed, the command ends when all is done, or where the file has no place, or for want of memory.
abbrev pub LiveEndsWell : Asked → Ended → SourceView → SourceView → SinkView → SinkView → Type 0
LiveEndsWell a result s t k l =
    HasRows a s → (Rose s.faults t.faults → ⊥) → (Rose k.faults l.faults → ⊥) → ((worn : SeatView) → result ≡ ends.Image worn → ⊥)
    → (result ≡ ends.With statuses.Done) ⊎ ((result ≡ ends.With statuses.Limit) ⊎ (result ≡ ends.With statuses.Memory))
