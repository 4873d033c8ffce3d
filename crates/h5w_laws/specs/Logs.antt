-- What holds of every log: its positions, and what is flushed there.
use Rattle.std.specs.Prelude.{◌≡◌, ℕ, ◌<◌, ◌≤◌, List, ◌∷◌, length, take}
use Rattle.h5w_model.specs.Logs.{Log, Happening, shows, hist, shown, appended, flushed, flushed_at, at_position, and_now}
use Rattle.h5w_model.specs.Prefixed.{image_at, Prefixed, ReadsNow, PrefixedEach, StillAt, Still}
use Rattle.h5w_model.specs.declared.piece.Write.{Write}

-- The log at a position has the first so many pieces, at the last one it is the log itself, and an event after the next
-- piece leaves it as it was.
pub record PositionLaws : Type 0 where
  pub counted : (es : List Happening) → length (hist es) ≡ shown es
  pub pieces : (log : Log) (p : ℕ) → hist (at_position log p).events ≡ take p (hist log.events)
  pub now : (log : Log) (p : ℕ) → shown log.events ≤ p → at_position log p ≡ log
  pub earlier : (e : Happening) (log : Log) (p : ℕ) → p < shown (e ∷ log.events) → at_position (and_now e log) p ≡ at_position log p
  pub images : (e : Happening) (log : Log) (p : ℕ) → p ≤ shown log.events → image_at (and_now e log) p ≡ image_at log p

-- What is flushed is the beginning of what was appended, and never becomes less: not from one position to a later one,
-- and not by an event. This holds of every list of events, also of one that no session makes.
pub record FlushedLaws : Type 0 where
  pub begins : (log : Log) → take (length (flushed log)) (appended log) ≡ flushed log
  pub begins_at : (log : Log) (p : ℕ) → take (length (flushed (at_position log p))) (appended log) ≡ flushed (at_position log p)
  pub longer : (log : Log) (p q : ℕ) → p ≤ q → length (flushed (at_position log p)) ≤ length (flushed (at_position log q))
  pub rises : (log : Log) (p q : ℕ) → p ≤ q → flushed_at log p ≤ flushed_at log q
  pub grows : (e : Happening) (log : Log) → length (flushed log) ≤ length (flushed (and_now e log))

-- what holds after each event holds at each position
abbrev pub EachGivesPrefixed : Type 0
EachGivesPrefixed = (name : List ℕ) (log : Log) → PrefixedEach name log → Prefixed name log

-- What holds of each position of a log holds of each of the log with one more event: where the image reads as the flushed
-- rows then, and where the event is a piece that leaves what readers rest on.
pub record EventLaws : Type 0 where
  pub prefixed : (name : List ℕ) (e : Happening) (log : Log) → PrefixedEach name log → (log.first ≤ shown (e ∷ log.events) → ReadsNow name (and_now e log))
      → PrefixedEach name (and_now e log)
  pub still : (name : List ℕ) (e : Happening) (log : Log) → shown (e ∷ log.events) ≡ shown log.events → Still name log → Still name (and_now e log)
  pub still_piece : (name : List ℕ) (w : Write) (log : Log) → Still name log → (log.first ≤ shown log.events → StillAt name (and_now (shows w) log) (shown log.events))
      → Still name (and_now (shows w) log)
