-- What readers find at the positions of a writer's log, by the lines that the writer did: rows that are appended, and flushes. All pieces
-- of a line become visible before the next.
use Rattle.std.specs.Prelude.{◌≡◌, ℕ, ◌<◌, ◌≤◌, List, [], ◌∷◌, ◌++◌, length, nat_lt, ◌==◌, if◌then◌else◌, ℤ}
use Rattle.h5w_model.specs.Lawful.{Line, adds, flushes, Rules, rows_in}
use Rattle.h5w_model.specs.Logs.{Happening, Log, appends, flushed_at, plans}
use Rattle.h5w_model.specs.declared.piece.Write.{Write}
use Rattle.h5w_stop.specs.declared.outcome.Outcome.{Outcome}
use Rattle.h5w_stop.specs.declared.outcome.Outcome.TheVariants.{NoFile, Rows}
use Rattle.h5w_stop.specs.declared.report.Run.{Run}
use Rattle.h5w_reader_laws.specs.Showing.{showing}

-- at a position of a log: no file before its first superblock is visible, and from then on the rows that are flushed there
abbrev pub found_at : Log → ℕ → Outcome
found_at log p = if nat_lt p log.first then NoFile else Rows (flushed_at log p)

-- ---- Between two lines

-- The values that were appended, and how many rows are flushed; all pieces are visible.
pub record Rest : Type 0 where
  pub appended : List ℤ
  pub flushed : ℕ

abbrev pub no_rows : Rest
no_rows = record { appended = []; flushed = 0 }

-- behind one more line
abbrev pub rest_after : Rules → Rest → Line → Rest
rest_after g r (adds vs) = record r { appended = r.appended ++ vs }
rest_after g r flushes = record r { flushed = rows_in g r.appended }
rest_after g r line = r

-- behind some lines, one after another
abbrev pub rest_of : Rules → Rest → List Line → Rest
rest_of g r [] = r
rest_of g r (line ∷ lines) = rest_of g (rest_after g r line) lines

-- ---- The log

-- The values were appended, and all pieces that this wrote early became visible.
pub record Appends (values : List ℤ) (before after : List Happening) : Type 0 where
  pub pieces : List Write
  pub is : after ≡ showing pieces (appends values ∷ before)

-- A flush planned its pieces, some where rows waited and none else, and all of them became visible.
pub record Flushes (g : Rules) (r : Rest) (before after : List Happening) : Type 0 where
  pub pieces : List Write
  pub is : after ≡ showing pieces (plans (length pieces) ∷ before)
  pub some : r.flushed < rows_in g r.appended → 1 ≤ length pieces
  pub none : r.flushed ≡ rows_in g r.appended → pieces ≡ []

-- what a line comes to
abbrev pub Does : Rules → Rest → Line → List Happening → List Happening → Type 0
Does g r (adds vs) before after = Appends vs before after
Does g r flushes before after = Flushes g r before after
Does g r line before after = ⊥

-- what some lines come to, one after another
abbrev pub DoAll : Rules → Rest → List Line → List Happening → List Happening → Type 0
DoAll g r [] before after = after ≡ before
DoAll g r (line ∷ lines) before after = (between : List Happening) × Does g r line before between × DoAll g (rest_after g r line) lines between after

-- ---- The runs

-- the rows behind a flush that adds some
abbrev pub line_counts : Rules → Rest → Line → List ℕ
line_counts g r flushes = if rows_in g r.appended == r.flushed then [] else rows_in g r.appended ∷ []
line_counts g r line = []

-- those of some lines, one after another
abbrev pub flush_counts : Rules → Rest → List Line → List ℕ
flush_counts g r [] = []
flush_counts g r (line ∷ lines) = line_counts g r line ++ flush_counts g (rest_after g r line) lines

abbrev pub outcome_of_run : Run → Outcome
outcome_of_run run = run.outcome
