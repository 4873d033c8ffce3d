-- A log that has come to a file at a moment, and what one more event does to that.
use Rattle.std.specs.Prelude.{◌≡◌, ℕ, ◌<◌, ◌≤◌, List, ◌∷◌}
use Rattle.h5w_model.specs.Images.{image}
use Rattle.h5w_model.specs.Logs.{Log, Happening, shows, hist, shown, flushed, and_now}
use Rattle.h5w_model.specs.Tables.{Reading, Shows, Reads, format_limits}
use Rattle.h5w_model.specs.Findings.{Used, Summary, Valid}
use Rattle.h5w_model.specs.Prefixed.{image_at, PrefixedEach, Still}
use Rattle.h5w_model.specs.declared.piece.Write.{Write}
use Rattle.h5w_step_laws.specs.Ranges.{AllAmong, AllEndBy, AllSome}
use Rattle.h5w_step_laws.specs.Moments.{Moment, front_of, Represents}
use Rattle.h5w_step_laws.specs.Steps.{OffAll, Clear, HeldBehind, Step}

-- the image now
abbrev pub image_now : Log → List ℕ
image_now log = image log.start (hist log.events)

-- A position of the log: what it shows has no more rows than now, and where it has as many, what it reaches is held.
pub record IsPast (log : Log) (p : ℕ) (m : Moment) (held : List Used) (r : Reading) : Type 0 where
  pub rows : r.dataset.shape.rows ≤ m.dataset.shape.rows
  pub reached : r.dataset.shape.rows ≡ m.dataset.shape.rows → HeldBehind (image_at log p) r held

-- the log has come to this moment, and these ranges are held
pub record Goes (name : List ℕ) (log : Log) (m : Moment) (held : List Used) : Type 0 where
  pub begun : log.first ≤ shown log.events
  pub now : Represents (image_now log) name m
  pub values : m.values ≡ flushed log
  pub some_columns : 0 < log.columns
  pub columns : m.dataset.shape.cols ≡ log.columns
  pub reaches : AllAmong m.behind held
  pub past : (p : ℕ) (r : Reading) → log.first ≤ p → p ≤ shown log.events → Shows format_limits (image_at log p) name r → IsPast log p m held r
  pub off_front : OffAll held (front_of m)
  pub ends : AllEndBy m.super.end held
  pub some : AllSome held
  pub clear : Clear held m
  pub prefixed : PrefixedEach name log
  pub still : Still name log

-- ---- Laws

-- one safe piece takes a log that has come to a moment to the next
abbrev pub PieceGoes : Type 0
PieceGoes = (name : List ℕ) (log : Log) (m : Moment) (held : List Used) (w : Write) (n : Moment) (after : List Used)
    → Goes name log m held → Step (image_now log) m held w n after → n.values ≡ flushed (and_now (shows w) log) → Goes name (and_now (shows w) log) n after

-- an event that shows no piece
abbrev pub EventGoes : Type 0
EventGoes = (name : List ℕ) (e : Happening) (log : Log) (m : Moment) (held : List Used) → shown (e ∷ log.events) ≡ shown log.events → m.values ≡ flushed (and_now e log)
    → Goes name log m held → Goes name (and_now e log) m held

-- a log that has come to its first position
abbrev pub BeginGoes : Type 0
BeginGoes = (name : List ℕ) (log : Log) (m : Moment) → log.first ≡ shown log.events → Represents (image_now log) name m → m.values ≡ flushed log
    → 0 < log.columns → m.dataset.shape.cols ≡ log.columns → PrefixedEach name log → Goes name log m m.behind

-- what a log is that has come to a moment: valid, and read as its values
pub record ValidAndRead (img name : List ℕ) (m : Moment) : Type 0 where
  pub summary : Summary
  pub valid : Valid img name summary
  pub reads : Reads img name m.dataset.shape.rows m.dataset.shape.cols m.values

abbrev pub MomentFound : Type 0
MomentFound = (img name : List ℕ) (m : Moment) → Represents img name m → ValidAndRead img name m
