-- Where each dataset of a file is between two pieces that are pending.
use Rattle.std.specs.Prelude.{◌≡◌, ◌≤◌, ℕ, suc, List, [], ◌∷◌}
use Rattle.h5w_model.specs.Relations.{AllPaired}
use Rattle.h5w_model.specs.Several.{Begun, FileLog, log_of, shown_in, shows_all}
use Rattle.h5w_model.specs.declared.piece.Write.{Write}
use Rattle.h5w_step_laws.specs.Logs.{Goes}
use Rattle.h5w_several_laws.specs.Turns.{AreOff, Entry}

-- one more piece of the file is shown
abbrev pub then_shows : Write → FileLog → FileLog
then_shows w log = record log { events = shows_all w ∷ log.events }

abbrev pub then_shown : List Write → FileLog → FileLog
then_shown [] log = log
then_shown (w ∷ ws) log = then_shown ws (then_shows w log)

-- a dataset of the file: its number, what it began with, and its name
pub record Stand : Type 0 where
  pub number : ℕ
  pub begun : Begun
  pub name : List ℕ

-- from number d on
abbrev pub stands_of : ℕ → List Begun → List (List ℕ) → List Stand
stands_of d [] names = []
stands_of d (b ∷ bs) [] = []
stands_of d (b ∷ bs) (name ∷ names) = record { number = d; begun = b; name = name } ∷ stands_of (suc d) bs names

-- what it sees of the log has come to this moment, and readers may hold this
pub record IsAt (log : FileLog) (x : Stand) (e : Entry) : Type 0 where
  pub named : e.name ≡ x.name
  pub goes : Goes e.name (log_of x.number x.begun log) e.moment e.held

-- So it is with each; and what readers of one may hold is off what another has.
pub record AreAt (log : FileLog) (xs : List Stand) : Type 0 where
  pub entries : List Entry
  pub each : AllPaired (IsAt log) xs entries
  pub off : AreOff entries

-- before each of these pieces, once a reader finds a file
abbrev pub AreThrough : FileLog → List Stand → List Write → Type 0
AreThrough log xs [] = Unit {0}
AreThrough log xs (w ∷ ws) = (log.first ≤ shown_in log.events → AreAt log xs) × AreThrough (then_shows w log) xs ws
