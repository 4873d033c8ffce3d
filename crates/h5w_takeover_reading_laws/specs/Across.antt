-- What readers get of the log of a file that one writer after another took over.
use Rattle.std.specs.Prelude.{◌≡◌, ℕ, ◌+◌, ◌*◌, ◌^◌, ◌≤◌, ℤ, List, ◌++◌, length, take, drop, slice_get, Some, Result, Ok}
use Rattle.h5w_model.specs.Calls.{CallRules, rows_call, values_call}
use Rattle.h5w_model.specs.Logs.{Log, appended}
use Rattle.h5w_model.specs.Prefixed.{IsPosition, image_at}
use Rattle.h5w_model.specs.Programs.{Takes}
use Rattle.h5w_model.specs.Readers.{IsCall, Placed, looks_of}
use Rattle.h5w_model.specs.Several.{Begun, FileLog, Happened, file_log, log_of}
use Rattle.h5w_model.specs.Tables.{Reading, Shows, format_limits}
use Rattle.h5w_model.specs.declared.refusal.ReadError.{ReadError}
use Rattle.h5w_reader_laws.specs.Headline.{IsAnswer, Served, WithinLimits}
use Rattle.h5w_writer.specs.Sessions.{Session}
use Rattle.h5w_several_writer_laws.specs.Sessions.{Sessions}
use Rattle.h5w_several_writer_laws.specs.Standing.{StandsAll}

-- the log of the file with what happened later, takeovers among it, the newest first
abbrev pub later_log : List Happened → FileLog → FileLog
later_log es log = record log { events = es ++ log.events }

-- A reader that polls over one log polls over the other: each position is one there, with the same image, and so is each call.
pub record ReaderGoesOn (old new : Log) : Type 0 where
  pub positions : (p : ℕ) → IsPosition old p → IsPosition new p
  pub images : (p : ℕ) → IsPosition old p → image_at new p ≡ image_at old p
  pub calls : (from : ℕ) (ls : List Placed) → IsCall old from ls → IsCall new from ls

-- the one dataset of a file, as a log of its own began with it
abbrev pub begun_of : Log → Begun
begun_of log = record { columns = log.columns; values = log.values }

-- A session stands for the log with what happened later; this is a dataset of both, and no image is longer than an address tells.
pub record IsAcross (S : Sessions) (log : FileLog) (es : List Happened) (d : ℕ) (b : Begun) (s : Session) : Type 0 where
  pub stands : StandsAll S (later_log es log)
  pub limit : S.places.limit ≤ 2 ^ 64
  pub start : length log.start ≤ 2 ^ 64
  pub set : slice_get log.sets d ≡ Some b
  pub part : slice_get S.parts d ≡ Some s

-- ---- Laws

-- what readers of a dataset rest on holds of each log of each session
abbrev pub AllServe : Type 0
AllServe = (S : Sessions) (log : FileLog) → StandsAll S log → S.places.limit ≤ 2 ^ 64 → length log.start ≤ 2 ^ 64 → (d : ℕ) (b : Begun) (s : Session) → slice_get log.sets d ≡ Some b → slice_get S.parts d ≡ Some s
    → Served s.name (log_of d b log) × WithinLimits format_limits s.name (log_of d b log)

abbrev pub ReadersGoOn : Type 0
ReadersGoOn = (log : FileLog) (es : List Happened) (d : ℕ) (b : Begun) → ReaderGoesOn (log_of d b log) (log_of d b (later_log es log))

abbrev pub AloneGoesOn : Type 0
AloneGoesOn = (log : Log) (es : List Happened) → ReaderGoesOn log (log_of 0 (begun_of log) (later_log es (file_log log)))

-- a refresh of a reader that knows what was shown before
abbrev pub RefreshesAcross : Type 0
RefreshesAcross = (S : Sessions) (log : FileLog) (es : List Happened) (d : ℕ) (b : Begun) (s : Session) (g : CallRules) (seen : ℕ) (r : Reading) (from : ℕ) (ls : List Placed) (a : Result Reading ReadError)
    → IsAcross S log es d b s → g.limits ≡ format_limits → 1 ≤ g.attempts → IsPosition (log_of d b log) seen → seen ≤ from → IsCall (log_of d b (later_log es log)) from ls
    → Shows format_limits (image_at (log_of d b log) seen) s.name r → g.place ≡ r.place → g.known ≡ Some r
    → Takes (rows_call g) (looks_of ls) a → IsAnswer s.name (log_of d b (later_log es log)) from r.dataset.shape.rows g.attempts ls a

-- a read of rows that were shown before: they are the first of what is appended then
abbrev pub ReadsAcross : Type 0
ReadsAcross = (S : Sessions) (log : FileLog) (es : List Happened) (d : ℕ) (b : Begun) (s : Session) (seen : ℕ) (r : Reading) (from first count : ℕ) (ls : List Placed) (a : Result (List ℤ) ReadError)
    → IsAcross S log es d b s → IsPosition (log_of d b log) seen → seen ≤ from → Shows format_limits (image_at (log_of d b log) seen) s.name r → IsCall (log_of d b (later_log es log)) from ls
    → 1 ≤ count → first + count ≤ r.dataset.shape.rows
    → Takes (values_call r first count) (looks_of ls) a → a ≡ Ok (take (count * r.dataset.shape.cols) (drop (first * r.dataset.shape.cols) (appended (log_of d b (later_log es log)))))
