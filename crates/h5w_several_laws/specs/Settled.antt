-- What a takeover leaves of a log.
use Rattle.std.specs.Prelude.{◌≡◌, ℕ, ◌≤◌, List, ◌++◌, ℤ}
use Rattle.h5w_model.specs.Logs.{Log, Happening, hist, appended_in, flushed_in, flushed, at_position}
use Rattle.h5w_model.specs.Several.{settled, settled_log}
use Rattle.h5w_model.specs.Findings.{Used}
use Rattle.h5w_step_laws.specs.Moments.{Moment}
use Rattle.h5w_step_laws.specs.Logs.{Goes}

-- The pieces are the same; what is appended is what was flushed; at each position as much is flushed as was; and no piece that comes
-- later makes an earlier flush whole.
pub record SettledLaws : Type 0 where
  pub pieces : (n : ℕ) (es : List Happening) → hist (settled n es) ≡ hist es
  pub appended : (n : ℕ) (base : List ℤ) (es : List Happening) → base ++ appended_in (settled n es) ≡ flushed_in n base es
  pub later : (m n : ℕ) (base : List ℤ) (es : List Happening) → n ≤ m → flushed_in m base (settled n es) ≡ flushed_in n base es
  pub positions : (log : Log) (p : ℕ) → flushed (at_position (settled_log log) p) ≡ flushed (at_position log p)

-- A log that has come to a moment has come to it also so, and then no flush is under way.
pub record IsSettled (name : List ℕ) (log : Log) (m : Moment) (held : List Used) : Type 0 where
  pub goes : Goes name (settled_log log) m held
  pub flushed : (k : ℕ) → flushed_in k log.values (settled 0 log.events) ≡ m.values

abbrev pub SettledGoes : Type 0
SettledGoes = (name : List ℕ) (log : Log) (m : Moment) (held : List Used) → Goes name log m held → IsSettled name log m held
