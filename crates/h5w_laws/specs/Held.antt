-- What readers rest on: what a valid image shows, and what is held from each position of a log to each later one.
use Rattle.std.specs.Prelude.{◌≡◌, ℕ, ◌+◌, ◌≤◌, List, [], ◌∷◌, length, Ok}
use Rattle.h5w_model.specs.Programs.{Visit, eval, visits}
use Rattle.h5w_model.specs.Logs.{Log}
use Rattle.h5w_model.specs.Datasets.{Described}
use Rattle.h5w_model.specs.Tables.{Reading, Shows, InPlace, in_place, address_behind, format_limits}
use Rattle.h5w_model.specs.Findings.{Summary, Valid}
use Rattle.h5w_model.specs.Prefixed.{IsKey, Prefixed, Still, Held}
use Rattle.h5w_model.specs.declared.cell.Key.{Key}

-- these ranges end within the image
abbrev pub AreInside : List ℕ → List Visit → Type 0
AreInside img [] = Unit {0}
AreInside img (v ∷ vs) = (v.place + v.len ≤ length img) × AreInside img vs

-- The blocks in place are read, and behind them the address of each key that the index can name, within the image.
pub record IsReached (img : List ℕ) (d : Described) : Type 0 where
  pub blocks : InPlace
  pub read : eval img (in_place d) ≡ Ok blocks
  pub answered : (key : Key) → IsKey d.layout.index key → (address : ℕ) × (eval img (address_behind blocks key) ≡ Ok address)
  pub inside : (key : Key) → IsKey d.layout.index key → AreInside img (visits img (address_behind blocks key))

-- An image shows the rows of a summary, and every key is reached.
pub record IsWhole (img name : List ℕ) (s : Summary) : Type 0 where
  pub shown : Reading
  pub shows : Shows format_limits img name shown
  pub rows : shown.dataset.shape.rows ≡ s.rows
  pub reached : IsReached img shown.dataset

abbrev pub ValidShows : Type 0
ValidShows = (img name : List ℕ) (s : Summary) → Valid img name s → IsWhole img name s

-- what holds from each position to the next holds from each to each later one
abbrev pub StillGivesHeld : Type 0
StillGivesHeld = (name : List ℕ) (log : Log) → Prefixed name log → Still name log → Held name log
