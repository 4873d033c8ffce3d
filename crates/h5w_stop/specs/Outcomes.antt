-- What a reader's open finds in the image of a journal, from one position to the next.
use Rattle.std.specs.Prelude.{◌≡◌, ◌≢◌, ℕ, ◌+◌, ◌≤◌, List, [], ◌∷◌, take, Result, Ok, Err}
use Rattle.h5w_model.specs.Images.{image}
use Rattle.h5w_model.specs.Programs.{eval}
use Rattle.h5w_model.specs.Tables.{Reading, format_limits, reading}
use Rattle.h5w_model.specs.declared.piece.Write.{Write}
use Rattle.h5w_model.specs.declared.refusal.ReadError.{ReadError}
use Rattle.h5w_model.specs.declared.refusal.ReadError.TheVariants.{NotHdf5}
use Rattle.h5w_stop.specs.declared.outcome.Outcome.{Outcome}
use Rattle.h5w_stop.specs.declared.outcome.Outcome.TheVariants.{NoFile, Rows, Refused}
use Rattle.h5w_stop.specs.declared.report.Run.{Run}

-- ---- One position

-- what an open finds, by what an image gives it
abbrev pub outcome_of : Result Reading ReadError → Outcome
outcome_of (Ok r) = Rows r.dataset.shape.rows
outcome_of (Err NotHdf5) = NoFile
outcome_of (Err e) = Refused

-- what the open of a dataset of this name finds in an image
abbrev pub outcome_in : List ℕ → List ℕ → Outcome
outcome_in img name = outcome_of (eval img (reading format_limits name))

-- what it finds at a position of a journal: behind so many of its pieces
abbrev pub outcome_at : List Write → List ℕ → ℕ → Outcome
outcome_at writes name p = outcome_in (image [] (take p writes)) name

-- ---- Runs

-- A run from this position on: its positions have its outcome.
pub record IsRun (at : ℕ → Outcome) (first : ℕ) (run : Run) : Type 0 where
  pub begins : run.first ≡ first
  pub some : first ≤ run.last
  pub same : (p : ℕ) → first ≤ p → p ≤ run.last → at p ≡ run.outcome

-- the run that comes next has another outcome
abbrev pub Turns : Outcome → List Run → Type 0
Turns outcome [] = Unit {0}
Turns outcome (run ∷ runs) = run.outcome ≢ outcome

-- The runs of the positions from `first` up to but not including `end`: each begins behind the one before, where the outcome turns.
abbrev pub AreRuns : (ℕ → Outcome) → (first end : ℕ) → List Run → Type 0
AreRuns at first end [] = first ≡ end
AreRuns at first end (run ∷ runs) = IsRun at first run × Turns run.outcome runs × AreRuns at (run.last + 1) end runs
