-- What a run in threads over the batches of an input comes to: what it reports, or why it does not.
use Rattle.std.specs.Prelude.{◌≡◌, ℕ, ◌+◌, ◌/◌, ◌<◌, ◌≤◌, List, [], ◌++◌, length, take, get_or, ℤ, nat_lt, if◌then◌else◌, Option, None, Some}
use Rattle.h5w_model.specs.Agrees.{values_in}
use Rattle.h5w_model.specs.Logs.{Log, appended, flushed_rows, load, spent}
use Rattle.h5w_space.specs.declared.Full.{Full}
use Rattle.h5w_options.specs.declared.options.Options.{Options}
use Rattle.h5w_creation_laws.specs.CreatedFiles.{CreatedFile}
use Rattle.h5w_writer.specs.Creations.{log_of}
use Rattle.h5w_creation.specs.NewFiles.{new_file}
use Rattle.h5w_writer.specs.declared.refusal.AppendError.TheVariants as appends
use Rattle.h5w_text.specs.Streams.{SourceView}
use Rattle.h5w_text.specs.declared.error.ErrorLine.TheVariants as errors
use Rattle.h5w_batches.specs.Inputs.{ReadsOutside}
use Rattle.h5w_batches.specs.Reads.{HasFailed, IsTooLong, ReadsBatches}
use Rattle.h5w_live.specs.Reports.{Reports}
use Rattle.h5w_live.specs.Writing.{IsFullAt, cutting_for, first_refused}
use Rattle.h5w_live.specs.declared.report.LiveReport.{LiveReport}
use Rattle.h5w_running.specs.Texts.{report_text}
use Rattle.h5w_running.specs.declared.refusal.Refusal.{Refusal}
use Rattle.h5w_running.specs.declared.refusal.Refusal.TheVariants.{Error, Image}

-- What was asked for: the file that is created and the most bytes that it may have, the attempts of a call, how many readers make how many
-- calls each, and how many readers more look at a second image.
pub record Asked : Type 0 where
  pub file : CreatedFile
  pub most : ℕ
  pub attempts : ℕ
  pub readers : ℕ
  pub mirrors : ℕ
  pub calls : ℕ

abbrev pub asked_by : Options → (readers calls attempts mirrors : ℕ) → Asked
asked_by o readers calls attempts mirrors = record {
  file = new_file o;
  most = o.limit;
  attempts = attempts;
  readers = readers;
  mirrors = mirrors;
  calls = calls;
}

-- how many pieces the file has, where a second image was asked for
abbrev pub mirrored_in : Asked → LiveReport → Option ℕ
mirrored_in a r = if nat_lt 0 a.mirrors then Some (length r.journal.writes) else None

-- The whole input was read, and these are its batches; the run over them came to this report, and the text is the report's, with all rows
-- in the end.
pub record Tells (a : Asked) (s t : SourceView) (r : LiveReport) (text : List ℕ) : Type 0 where
  pub batches : List (List ℤ)
  pub read : ReadsBatches a.file.columns s t batches
  pub accepted : first_refused a.file 0 1 batches ≡ None
  pub reports : Reports a.file batches a.attempts (a.readers + a.mirrors) a.calls r
  pub text_is : text ≡ report_text r.flushes r.polls (mirrored_in a r) (length (values_in batches) / a.file.columns)

-- ---- Why nothing is reported

-- by the batch of this number, for which a file of so many bytes at most has no place
abbrev pub Rooms : Type 1
Rooms = CreatedFile → (most : ℕ) → List (List ℤ) → (batch : ℕ) → Full → Type 0

-- Why a run over these batches does not report: the first batch that is refused, or one for which the file has no place, or no fault of
-- theirs. What it means that there is no place is told by a relation.
abbrev pub HaltsBy : Rooms → CreatedFile → ℕ → List (List ℤ) → Refusal → Type 0
HaltsBy Lacks f most bs (Error (errors.Range batch index value)) = first_refused f 0 1 bs ≡ Some (batch, appends.OutOfRange index value)
HaltsBy Lacks f most bs (Error (errors.FullChunks chunks limit)) = (batch : ℕ) × (first_refused f 0 1 bs ≡ Some (batch, appends.Chunks chunks limit))
HaltsBy Lacks f most bs (Error (errors.FullSpace at size limit)) = (batch : ℕ) × Lacks f most bs batch (record { at = at; size = size; limit = limit })
HaltsBy Lacks f most bs (Error errors.Memory) = Unit {0}
HaltsBy Lacks f most bs (Image worn) = Unit {0}
HaltsBy Lacks f most bs e = ⊥

-- Why nothing is reported: the input is refused, or the source failed, or the whole input was read and the run over its batches does not
-- report, or memory was wanting.
abbrev pub RefusesBy : Rooms → Asked → SourceView → SourceView → Refusal → Type 0
RefusesBy Lacks a s t (Error (errors.Line number)) = ReadsOutside a.file.columns s number
RefusesBy Lacks a s t (Error (errors.Input limit)) = IsTooLong a.file.columns s limit
RefusesBy Lacks a s t (Error errors.Source) = HasFailed a.file.columns s t
RefusesBy Lacks a s t (Error errors.Memory) = Unit {0}
RefusesBy Lacks a s t e = (bs : List (List ℤ)) × ReadsBatches a.file.columns s t bs × HaltsBy Lacks a.file a.most bs e

-- ---- A file without a place, in words of its log

-- A log of the created file has the batches before this one flushed, and this one appended, none of which is refused. The file has no place
-- of this size there: it would end past the limit. Both are bounded by the loads of the log.
pub record LacksRoomAt (f : CreatedFile) (most : ℕ) (bs : List (List ℤ)) (batch : ℕ) (full : Full) : Type 0 where
  pub before : ℕ
  pub number : batch ≡ before + 1
  pub within : before < length bs
  pub accepted : first_refused f 0 1 (take batch bs) ≡ None
  pub log : Log
  pub new : log ≡ log_of f log.events
  pub appended : appended log ≡ values_in (take before bs) ++ get_or bs before []
  pub flushed : flushed_rows log ≡ length (values_in (take before bs)) / f.columns
  pub some : 1 ≤ full.size
  pub limit : full.limit ≡ most
  pub past : full.limit < full.at + full.size
  pub size_bound : full.size ≤ load (cutting_for f) log
  pub at_bound : full.at ≤ 1024 + spent (cutting_for f) log + load (cutting_for f) log

-- ---- The same of a session's own state

abbrev pub Halts : CreatedFile → ℕ → List (List ℤ) → Refusal → Type 0
Halts = HaltsBy IsFullAt

abbrev pub Refuses : Asked → SourceView → SourceView → Refusal → Type 0
Refuses = RefusesBy IsFullAt
