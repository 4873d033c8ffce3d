-- What every session's relation to its log has in common, and what it makes of an append, a flush and a piece.
use Rattle.std.specs.Prelude.{◌≡◌, ◌≢◌, ℕ, ◌<◌, List, [], ◌∷◌, ◌++◌, length, nat_lt, if◌then◌else◌, ℤ}
use Rattle.h5w_model.specs.Images.{image}
use Rattle.h5w_model.specs.Logs.{Log, appends, plans, shows, appended, flushed_in, and_now}
use Rattle.h5w_model.specs.Tables.{Reads}
use Rattle.h5w_model.specs.Findings.{Used, Summary, Valid}
use Rattle.h5w_model.specs.declared.piece.Write.{Write}
use Rattle.h5w_step_laws.specs.Moments.{Moment, all_used, Represents}
use Rattle.h5w_step_laws.specs.Steps.{LiesIn, OffAll, Ends, Step}
use Rattle.h5w_step_laws.specs.Logs.{Goes, image_now}
use Rattle.h5w_step_laws.specs.Plans.{Plan, Flush}

-- The log has come to a moment, the pending pieces are a flush (or early pieces, which bring no rows), and the values flushed
-- are those of now until the last of them is shown.
pub record Runs (name : List ℕ) (log : Log) (pending : List Write) (n : Moment) (after : List Used) : Type 0 where
  pub before : Moment
  pub held : List Used
  pub goes : Goes name log before held
  pub flush : Flush (image_now log) before held pending n after
  pub flushed : (k : ℕ) → flushed_in k log.values log.events ≡ (if nat_lt k (length pending) then before.values else n.values)

-- ---- Laws

-- the oldest pending piece becomes visible
abbrev pub PieceRuns : Type 0
PieceRuns = (name : List ℕ) (log : Log) (w : Write) (ws : List Write) (n : Moment) (after : List Used) → Runs name log (w ∷ ws) n after → Runs name (and_now (shows w) log) ws n after

-- values are appended, and some pieces that bring no rows are planned
abbrev pub AppendRuns : Type 0
AppendRuns = (name : List ℕ) (log : Log) (vs : List ℤ) (m n : Moment) (held after : List Used) (ws : List Write) → Runs name log [] m held → Plan (image_now log) m held ws n after
    → Runs name (and_now (appends vs) log) ws n after

-- a flush is planned
abbrev pub FlushRuns : Type 0
FlushRuns = (name : List ℕ) (log : Log) (m n : Moment) (held after : List Used) (ws : List Write) → Runs name log [] m held → Flush (image_now log) m held ws n after → ws ≢ []
    → n.values ≡ appended log → Runs name (and_now (plans (length ws)) log) ws n after

-- a log that has come to a moment, where no flush is under way, is a run without pending pieces
abbrev pub GoesRuns : Type 0
GoesRuns = (name : List ℕ) (log : Log) (m : Moment) (held : List Used) → Goes name log m held → ((k : ℕ) → flushed_in k log.values log.events ≡ m.values) → Runs name log [] m held

-- the image once all pending pieces are shown is the file at the moment to which they lead
abbrev pub RunsLead : Type 0
RunsLead = (name : List ℕ) (log : Log) (pending : List Write) (n : Moment) (after : List Used) → Runs name log pending n after → Represents (image (image_now log) pending) name n

-- ---- Opening a file

-- a valid file that reads as these values is a file at a moment
abbrev pub Opens : Type 0
Opens = (img name : List ℕ) (rows columns : ℕ) (values : List ℤ) (s : Summary) → Valid img name s → Reads img name rows columns values
    → (m : Moment) × Represents img name m × (m.values ≡ values) × (m.dataset.shape.rows ≡ rows) × (m.dataset.shape.cols ≡ columns)

-- a session that opens a valid file begins with it
abbrev pub OpenedGoes : Type 0
OpenedGoes = (img name : List ℕ) (rows columns : ℕ) (values : List ℤ) (s : Summary) → Valid img name s → Reads img name rows columns values → 0 < columns
    → (m : Moment) × (m.values ≡ values) × Goes name (record { start = img; columns = columns; values = values; first = 0; events = [] }) m m.behind

-- ---- Several datasets in one file

-- A piece in a dataset's own header or blocks in place is unseen for another dataset, whose ranges these meet nowhere; and the
-- superblock ends for all of them.
pub record OtherLaws : Type 0 where
  pub own : (img name : List ℕ) (m other : Moment) (held : List Used) (w : Write) → Represents img name other → LiesIn w (m.header ++ m.fixed) → OffAll (m.header ++ m.fixed) (all_used other)
      → OffAll (m.header ++ m.fixed) held → Step img other held w other held
  pub ends : (img : List ℕ) (m n other : Moment) (held : List Used) (w : Write) → other.super ≡ m.super → Ends img m w n → Step img other held w (record other { super = n.super }) held
