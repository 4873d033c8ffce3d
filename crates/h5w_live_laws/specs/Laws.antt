-- How the calls of readers agree with the lines of a writer's flushes.
use Rattle.std.specs.Prelude.{◌≡◌, ◌⊎◌, ℕ, ◌≤◌, List, length, take, Option, Some, None, Ok, Err, pos}
use Rattle.std.specs.Int.{w128}
use Rattle.std.specs.Int.RustNames.{FitsSigned}
use Rattle.h5w_model.specs.Agrees.{ReaderAgrees, Run, total}
use Rattle.h5w_model.specs.Logs.{Log, hist, appended}
use Rattle.h5w_model.specs.Prefixed.{IsPosition, image_at}
use Rattle.h5w_model.specs.Programs.{Takes}
use Rattle.h5w_model.specs.Tables.{Reading, Shows, format_limits}
use Rattle.h5w_model.specs.Unfinished.{ReaderRules, rows_program}
use Rattle.h5w_model.specs.declared.piece.Write.{Write}
use Rattle.h5w_model.specs.declared.refusal.ReadError.{ReadError}
use Rattle.h5w_model.specs.declared.report.PollLine.{PollLine}
use Rattle.h5w_model.specs.declared.refusal.ReadError.TheVariants as refusals
use Rattle.h5w_reader_laws.specs.Headline.{Served, WithinLimits}
use Rattle.h5w_shared.specs.Threads.{Sight}
use Rattle.h5w_shared.specs.Turns.{StartsWith}
use Rattle.h5w_live_laws.specs.Lines.{TellsFlushes}
use Rattle.h5w_live_laws.specs.Polls.{LooksThrough, TellPolls, looks_in, new_values}

-- A log that readers can rest on, all of whose positions are within their limits.
pub record Restful (g : ReaderRules) (log : Log) : Type 0 where
  pub served : Served g.name log
  pub within : WithinLimits g.limits g.name log
  pub attempts : 1 ≤ g.attempts

-- A run is told of such a log: its values are those that were appended, and the sum of the first of them is a signed number of 128 bits.
pub record IsRunOf (g : ReaderRules) (log : Log) (run : Run) : Type 0 where
  pub restful : Restful g log
  pub attempts : run.attempts ≡ g.attempts
  pub columns : run.columns ≡ log.columns
  pub values : run.values ≡ appended log
  pub flushes : TellsFlushes log run.flushes
  pub fits : (n : ℕ) → FitsSigned w128 (total (take n run.values))

-- a reading that was shown at a position, not behind another
pub record WasShown (name : List ℕ) (log : Log) (until : ℕ) (r : Reading) : Type 0 where
  pub position : ℕ
  pub there : IsPosition log position
  pub earlier : position ≤ until
  pub shows : Shows format_limits (image_at log position) name r

abbrev pub KnowsShown : List ℕ → Log → ℕ → Option Reading → Type 0
KnowsShown name log until None = Unit {0}
KnowsShown name log until (Some r) = WasShown name log until r

-- A call through a seat was refused: the one for rows, or the read of the rows that it found.
pub record IsRefusedCall (g : ReaderRules) (start : List ℕ) (known : Option Reading) (before after : List Write) (e : ReadError) : Type 0 where
  pub looks : List Sight
  pub looked : LooksThrough start before after looks
  pub answer : Takes (rows_program g known) (looks_in looks) (Err e)

pub record IsRefusedRead (g : ReaderRules) (start : List ℕ) (known : Option Reading) (before after : List Write) (e : ReadError) : Type 0 where
  pub between : List Write
  pub looks : List Sight
  pub looked : LooksThrough start before between looks
  pub reading : Reading
  pub answer : Takes (rows_program g known) (looks_in looks) (Ok reading)
  pub reads : List Sight
  pub read : LooksThrough start between after reads
  pub gives : Takes (new_values known reading) (looks_in reads) (Err e)

-- A call for rows was refused by another refusal than the one for a header that changed, or a read was refused.
abbrev pub IsStray : ReaderRules → List ℕ → Option Reading → (before after : List Write) → Type 0
IsStray g start known before after =
    (e : ReadError) × ((IsRefusedCall g start known before after e × ((attempts place first last : ℕ) → e ≡ refusals.Again attempts place first last → ⊥))
    ⊎ IsRefusedRead g start known before after e)

-- The first calls of a reader, from its open on, agree with a run of the log whose pieces go on from what its seat had seen in the
-- end. And no call behind them is refused otherwise than for a header that changed.
pub record PollLaws : Type 0 where
  pub agree : (g : ReaderRules) (log : Log) (run : Run) (reader : ℕ) (before after : List Write) (lines : List PollLine) (next : Option Reading)
      → IsRunOf g log run → log.first ≤ length before → StartsWith (hist log.events) after
      → TellPolls g log.start reader 1 None (pos 0) before lines next after → ReaderAgrees run reader 1 (length before) 0 lines
  pub none_stray : (g : ReaderRules) (log : Log) (reader : ℕ) (before between after : List Write) (lines : List PollLine) (next : Option Reading)
      → Restful g log → log.first ≤ length before → StartsWith (hist log.events) after
      → TellPolls g log.start reader 1 None (pos 0) before lines next between → IsStray g log.start next between after → ⊥
