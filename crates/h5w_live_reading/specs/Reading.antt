-- A reader's calls through its seat.
use Rattle.std.specs.Prelude.{◌≡◌, ℕ, zero, suc, List, Option, Some, None, IsSome, Result, ℤ, pos}
use Rattle.h5w_model.specs.Programs.{Takes}
use Rattle.h5w_model.specs.declared.refusal.ReadError.{ReadError}
use Rattle.h5w_model.specs.Asked.{left_after}
use Rattle.h5w_model.specs.Tables.{Reading}
use Rattle.h5w_model.specs.Unfinished.{Reader, ReaderRules, Unfinished, rows_left, rows_program, values_program, wanted}
use Rattle.h5w_model.specs.declared.piece.Write.{Write}
use Rattle.h5w_model.specs.declared.report.PollLine.{PollLine}
use Rattle.h5w_reader.specs.Readers.{StepTells}
use Rattle.h5w_reader.specs.declared.step.Step.{Step}
use Rattle.h5w_shared.specs.Threads.{Sight}
use Rattle.h5w_live_laws.specs.Polls.{LooksThrough, TellPolls, looks_in}
use Rattle.h5w_live_laws.specs.Laws.{IsStray}

-- The step is the answer of a reader's call, whose looks were all taken through its seat.
pub record AnswersThrough (start : List ℕ) (before after : List Write) (old : Reader) (step : Step) (new : Reader) : Type 0 where
  pub looks : List Sight
  pub looked : LooksThrough start before after looks
  pub tells : (p : Unfinished) → old.left ≡ Some p → StepTells (left_after (looks_in looks) p) old step new

-- a read of so many rows of what is known, from this one on, through a seat
pub record ReadsThrough (start : List ℕ) (known : Option Reading) (from count : ℕ) (before after : List Write) (a : Result (List ℤ) ReadError) : Type 0 where
  pub looks : List Sight
  pub looked : LooksThrough start before after looks
  pub gives : Takes (values_program known from count) (looks_in looks) a

-- a call for rows has begun
pub record IsBegun (r : Reader) : Type 0 where
  pub left : r.left ≡ Some (rows_left (rows_program r.rules r.known))
  pub wants : IsSome (wanted r.left)

-- Before its first call a reader has begun to open, and before each other none has begun.
abbrev pub IsReady : ℕ → Reader → Type 0
IsReady zero r = IsBegun r
IsReady (suc k) r = r.left ≡ None

-- the first calls of a reader, from its open on, and what is known and seen behind them
pub record Polled (g : ReaderRules) (start : List ℕ) (reader : ℕ) (before after : List Write) (lines : List PollLine) : Type 0 where
  pub next : Option Reading
  pub tell : TellPolls g start reader 1 None (pos 0) before lines next after

-- some calls of a reader, and behind them one that was refused as none is over the log of a writer
pub record Strays (g : ReaderRules) (start : List ℕ) (reader : ℕ) (before after : List Write) : Type 0 where
  pub lines : List PollLine
  pub between : List Write
  pub next : Option Reading
  pub tell : TellPolls g start reader 1 None (pos 0) before lines next between
  pub stray : IsStray g start next between after
