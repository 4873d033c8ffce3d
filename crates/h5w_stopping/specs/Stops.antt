-- What the sweep over the log of a writer's script reports, and how the command that prints it ends.
use Rattle.std.specs.Prelude.{◌≡◌, ◌⊎◌, ℕ, ◌+◌, ◌<◌, ◌≤◌, List, [], ◌∷◌, ◌++◌, length, map, take, flat_map, codes, option_map, Some, None, IfSome, Result, Ok, Err}
use Rattle.h5w_model.specs.Causes.{Rose}
use Rattle.h5w_model.specs.Lawful.{Line}
use Rattle.h5w_model.specs.Logs.{Log, hist}
use Rattle.h5w_model.specs.Prefixed.{Held, Prefixed}
use Rattle.h5w_writer.specs.Creations.{log_of}
use Rattle.h5w_creation.specs.NewFiles.{new_file}
use Rattle.h5w_options.specs.declared.options.Options.{Options}
use Rattle.h5w_stop.specs.Outcomes.{AreRuns}
use Rattle.h5w_stop.specs.Sweeps.{flush_counts, found_at, no_rows, outcome_of_run}
use Rattle.h5w_stop.specs.declared.outcome.Outcome.{Outcome}
use Rattle.h5w_stop.specs.declared.outcome.Outcome.TheVariants.{NoFile, Rows, Refused}
use Rattle.h5w_stop.specs.declared.report.Run.{Run}
use Rattle.h5w_input.specs.Lines.{lines_of, whole_lines_of}
use Rattle.h5w_text.specs.Errors.{error_text}
use Rattle.h5w_text.specs.Streams.{SinkView, SourceView}
use Rattle.h5w_text.specs.Table.{numbers_text}
use Rattle.h5w_text.specs.declared.error.ErrorLine.{ErrorLine}
use Rattle.h5w_text.specs.declared.error.ErrorLine.TheVariants as errors
use Rattle.h5w_input.specs.declared.line.LineError.{LineError}
use Rattle.h5w_input.specs.declared.line.LineError.TheVariants as line_errors
use Rattle.h5w_text.specs.declared.status.Status.{Status}
use Rattle.h5w_text.specs.declared.status.Status.TheVariants as statuses
use Rattle.h5w_files.specs.Ends.{EndsBy}
use Rattle.h5w_batches.specs.Inputs.{AreAll, input_limit}
use Rattle.h5w_playing.specs.Plays.{AreFirst}
use Rattle.h5w_core.specs.Worlds.{WorldView}
use Rattle.h5w_stopping.specs.Writing.{Follows, HasDone, LacksPlace, LacksRoom, Refuses, RefusesBy, Rooms, first_error, writing_line_of, writing_rules}

-- ---- What readers find

-- The report is that of the log of these lines, from no piece to all: at each position a reader's open finds no file, or just the rows that
-- are flushed there. The runs are one without a file, one without rows, and then one for each flush that adds rows, with their count.
pub record Reports (o : Options) (lines : List Line) (report : List Run) : Type 0 where
  pub log : Log
  pub is : log ≡ log_of (new_file o) log.events
  pub done : HasDone o lines log.events
  pub prefixed : Prefixed o.name log
  pub held : Held o.name log
  pub runs : AreRuns (found_at log) 0 (length (hist log.events) + 1) report
  pub outcomes : map outcome_of_run report ≡ NoFile ∷ Rows 0 ∷ map Rows (flush_counts (writing_rules o) no_rows lines)

-- the line of a run; a report has none of another refusal
abbrev pub outcome_text : Outcome → List ℕ → List ℕ
outcome_text NoFile range = numbers_text (codes "none") range
outcome_text (Rows rows) range = numbers_text (codes "rows") (rows ∷ range)
outcome_text Refused range = []

abbrev pub run_text : Run → List ℕ
run_text run = outcome_text run.outcome (run.first ∷ run.last ∷ [])

-- ---- What was read

-- These lines spell lines of the writer, none of which was refused, and what they come to was done.
pub record AreDone (o : Options) (lines : List (List ℕ)) : Type 0 where
  pub script : List Line
  pub spelled : map (writing_line_of (writing_rules o)) lines ≡ map Some script
  pub accepted : first_error (writing_rules o) no_rows 1 script ≡ None
  pub log : Log
  pub is : log ≡ log_of (new_file o) log.events
  pub done : HasDone o script log.events

-- The whole input, which is not too long, was read; its lines were done, and this is their report.
pub record Sweeps (o : Options) (s t : SourceView) (report : List Run) : Type 0 where
  pub lines : List (List ℕ)
  pub all : IfSome s.left (AreAll lines)
  pub read : IfSome t.left (λ rest. rest ≡ [])
  pub script : List Line
  pub spelled : map (writing_line_of (writing_rules o)) lines ≡ map Some script
  pub accepted : first_error (writing_rules o) no_rows 1 script ≡ None
  pub reports : Reports o script report

-- The line of this number is the first that is none of the writer; those before it were done.
pub record IsOutside (o : Options) (s : SourceView) (number : ℕ) : Type 0 where
  pub lines : List (List ℕ)
  pub done : AreDone o lines
  pub line : List ℕ
  pub outside : writing_line_of (writing_rules o) line ≡ None
  pub number_is : number ≡ length lines + 1
  pub first : AreFirst (lines ++ line ∷ []) s

-- The lines before this one were done, and it is refused.
pub record IsRefusedBy (Lacks : Rooms) (o : Options) (s : SourceView) (e : ErrorLine) : Type 0 where
  pub lines : List (List ℕ)
  pub done : AreDone o lines
  pub bytes : List ℕ
  pub line : Line
  pub spelled : writing_line_of (writing_rules o) bytes ≡ Some line
  pub first : AreFirst (lines ++ bytes ∷ []) s
  pub refused : RefusesBy Lacks o done.script (length lines + 1) line e

abbrev pub IsRefused : Options → SourceView → ErrorLine → Type 0
IsRefused = IsRefusedBy LacksPlace

-- The source had more bytes than an input may have, where it tells them; the lines that end among so many first ones were done.
pub record IsTooLong (o : Options) (s : SourceView) (limit : ℕ) : Type 0 where
  pub limit_is : limit ≡ input_limit
  pub lines : List (List ℕ)
  pub done : AreDone o lines
  pub long : IfSome s.left (λ input. (input_limit < length input) × (whole_lines_of (take input_limit input) ≡ lines))

-- The source failed; all whole lines that were read were done.
pub record HasFailed (o : Options) (s t : SourceView) : Type 0 where
  pub rose : Rose s.faults t.faults
  pub taken : List ℕ
  pub bound : length taken ≤ input_limit
  pub read : s.left ≡ option_map (λ rest. taken ++ rest) t.left
  pub done : AreDone o (whole_lines_of taken)

-- why there is no report
abbrev pub StopRefusesBy : Rooms → Options → SourceView → SourceView → ErrorLine → Type 0
StopRefusesBy Lacks o s t (errors.Line number) = IsOutside o s number
StopRefusesBy Lacks o s t (errors.Range number index value) = IsRefusedBy Lacks o s (errors.Range number index value)
StopRefusesBy Lacks o s t (errors.Input limit) = IsTooLong o s limit
StopRefusesBy Lacks o s t (errors.FullChunks chunks limit) = IsRefusedBy Lacks o s (errors.FullChunks chunks limit)
StopRefusesBy Lacks o s t (errors.FullSpace at size limit) = IsRefusedBy Lacks o s (errors.FullSpace at size limit)
StopRefusesBy Lacks o s t errors.Source = HasFailed o s t
StopRefusesBy Lacks o s t errors.Memory = Unit {0}
StopRefusesBy Lacks o s t e = ⊥

abbrev pub StopRefuses : Options → SourceView → SourceView → ErrorLine → Type 0
StopRefuses = StopRefusesBy LacksPlace

-- ---- Line by line

-- these bytes are a line of the writer, which was done behind others
abbrev pub TakesLine : Options → List Line → List ℕ → WorldView → Type 0
TakesLine o lines bytes w = (line : Line) × (writing_line_of (writing_rules o) bytes ≡ Some line) × Follows o (lines ++ line ∷ []) w

-- the line of this number, with these bytes, is refused behind others
abbrev pub RefusesLine : Options → List Line → ℕ → List ℕ → ErrorLine → Type 0
RefusesLine o lines number bytes (errors.Line n) = (n ≡ number) × (writing_line_of (writing_rules o) bytes ≡ None)
RefusesLine o lines number bytes errors.Memory = Unit {0}
RefusesLine o lines number bytes e = (line : Line) × (writing_line_of (writing_rules o) bytes ≡ Some line) × Refuses o lines number line e

-- the error of a line that the source did not give
abbrev pub error_line : LineError → ErrorLine
error_line line_errors.Failed = errors.Source
error_line (line_errors.Input limit) = errors.Input limit
error_line line_errors.OutOfMemory = errors.Memory

-- The whole input was read, and the world did its lines.
pub record ReadsAll (o : Options) (s t : SourceView) (w : WorldView) : Type 0 where
  pub lines : List (List ℕ)
  pub all : IfSome s.left (AreAll lines)
  pub read : IfSome t.left (λ rest. rest ≡ [])
  pub script : List Line
  pub spelled : map (writing_line_of (writing_rules o)) lines ≡ map Some script
  pub follows : Follows o script w

-- these bytes are the lines of the report of these lines
pub record IsTold (o : Options) (lines : List Line) (text : List ℕ) : Type 0 where
  pub report : List Run
  pub reports : Reports o lines report
  pub is : text ≡ flat_map run_text report

-- what the command has to write: the report of the whole input
abbrev pub SweepsTo : Options → SourceView → SourceView → List ℕ → Type 0
SweepsTo o s t text = (report : List Run) × Sweeps o s t report × (text ≡ flat_map run_text report)

-- ---- How the command ends

-- the lines of the report, or the line of an error
abbrev pub StopsBy : Rooms → Options → SourceView → SourceView → Result (List Run) ErrorLine → List ℕ → Type 0
StopsBy Lacks o s t (Ok report) text = Sweeps o s t report × (text ≡ flat_map run_text report)
StopsBy Lacks o s t (Err e) text = StopRefusesBy Lacks o s t e × (text ≡ error_text e)

abbrev pub StopsTo : Options → SourceView → SourceView → Result (List Run) ErrorLine → List ℕ → Type 0
StopsTo = StopsBy LacksPlace

-- in words of the log alone
abbrev pub StopTells : Options → Status → SourceView → SourceView → SinkView → SinkView → Type 0
StopTells o status s t k l = EndsBy {A = List Run} (λ answer text. StopsBy LacksRoom o s t answer text) status k l

-- by the session's own state
abbrev pub StopEnds : Options → Status → SourceView → SourceView → SinkView → SinkView → Type 0
StopEnds o status s t k l = EndsBy {A = List Run} (λ answer text. StopsTo o s t answer text) status k l

-- A source tells an input, which is not too long, and whose lines spell lines of the writer that none is refused of.
pub record HasWriting (o : Options) (s : SourceView) : Type 0 where
  pub input : List ℕ
  pub told : s.left ≡ Some input
  pub bound : length input ≤ input_limit
  pub script : List Line
  pub spelled : map (writing_line_of (writing_rules o)) (lines_of input) ≡ map Some script
  pub accepted : first_error (writing_rules o) no_rows 1 script ≡ None

-- Where neither source nor sink failed, the command ends when all is done, or where the file has no place, or for want of memory.
abbrev pub StopEndsWell : Options → Status → SourceView → SourceView → SinkView → SinkView → Type 0
StopEndsWell o status s t k l =
    HasWriting o s → (Rose s.faults t.faults → ⊥) → (Rose k.faults l.faults → ⊥) → (status ≡ statuses.Done) ⊎ ((status ≡ statuses.Limit) ⊎ (status ≡ statuses.Memory))
