-- What calls through seats come to: looks through one reader's seat are a call over any log whose pieces extend what the
-- seat has seen, and what is written through the writer's seat is a log's pieces.
use Rattle.std.specs.Prelude.{◌≡◌, ℕ, ℤ, Bool, true, false, List, [], ◌∷◌, ◌++◌, length, map}
use Rattle.h5w_model.specs.Images.{image}
use Rattle.h5w_model.specs.Logs.{Log, appends, plans, shows, hist, and_now}
use Rattle.h5w_model.specs.Prefixed.{image_at}
use Rattle.h5w_model.specs.Programs.{Look, IsLookAt}
use Rattle.h5w_model.specs.Readers.{Placed, IsCall}
use Rattle.h5w_model.specs.declared.piece.Write.{Write}
use Rattle.h5w_image.specs.View.{Looked, Same, Wrote}
use Rattle.h5w_shared.specs.Turns.{StartsWith}
use Rattle.h5w_shared.specs.Seats.{SeatView, bytes_of, seen_through}

-- ---- Readers

-- a look through a reader's seat, and the pieces that the seat had seen then
pub record Sight : Type 0 where
  pub seen : List Write
  pub look : Look

-- Looks through one seat, one after another, over an image that began with these bytes, by a seat that had seen these
-- pieces: each list extends the one before, and each look shows the image after it.
abbrev pub Sights : List ℕ → List Write → List Sight → Type 0
Sights start from [] = Unit {0}
Sights start from (s ∷ ss) = StartsWith s.seen from × IsLookAt (image start s.seen) s.look × Sights start s.seen ss

-- the pieces that the seat has seen after them
abbrev pub seen_after : List Write → List Sight → List Write
seen_after from [] = from
seen_after from (s ∷ ss) = seen_after s.seen ss

-- each at the position of the number of pieces that the seat had seen
abbrev pub placed : List Sight → List Placed
placed ss = map (λ s. record { position = length s.seen; look = s.look }) ss

-- looks through one seat are a call over each log that began with the same bytes and whose pieces extend what the seat has
-- seen after them; it begins at the number of pieces that the seat had seen before
abbrev pub ReadersCall : Type 0
ReadersCall =
    (log : Log) (from : List Write) (sights : List Sight) → Sights log.start from sights → StartsWith (hist log.events) (seen_after from sights)
    → IsCall log (length from) (placed sights)

-- ---- The writer

-- the log began with the bytes of the seat's image, and its pieces are those that the seat has seen
pub record IsLogOf (s : SeatView) (log : Log) : Type 0 where
  pub start : log.start ≡ s.image.start
  pub pieces : hist log.events ≡ s.seen

-- A log of the writer's seat stays one: with an append, with a plan, and with a piece once it was written. Its image is what
-- the seat shows, at the position of the number of pieces; and a list that begins the seat's begins the log's pieces.
pub record WritersLog : Type 0 where
  pub appended : (s : SeatView) (log : Log) → IsLogOf s log → (vs : List ℤ) → IsLogOf s (and_now (appends vs) log)
  pub planned : (s : SeatView) (log : Log) → IsLogOf s log → (k : ℕ) → IsLogOf s (and_now (plans k) log)
  pub shown : (s t : SeatView) (log : Log) (w : Write) → IsLogOf s log → t.image ≡ s.image → t.seen ≡ s.seen ++ w ∷ [] → IsLogOf t (and_now (shows w) log)
  pub image : (s : SeatView) (log : Log) → IsLogOf s log → image_at log (length s.seen) ≡ bytes_of s
  pub begins : (s : SeatView) (log : Log) (seen : List Write) → IsLogOf s log → StartsWith s.seen seen → StartsWith (hist log.events) seen

-- ---- What generic calls leave

-- What the relations of the traits say of a seat, where the call may have done anything within them: it is the same
-- reference to a seat of the same image, with the pieces that were written, or with more that were seen.
pub record ThroughSeats : Type 0 where
  pub same : (alone : Bool) (m n : ℕ) (s t : SeatView) → Same (seen_through alone m s) (seen_through alone n t) → (n ≡ m) × (t.image ≡ s.image) × (t.seen ≡ s.seen)
  pub wrote : (m n : ℕ) (ws : List Write) (s t : SeatView) → Wrote ws (seen_through true m s) (seen_through true n t) → (n ≡ m) × (t.image ≡ s.image) × (t.seen ≡ s.seen ++ ws)
  pub looked : (m n : ℕ) (s t : SeatView) → Looked (seen_through false m s) (seen_through false n t) → (n ≡ m) × (t.image ≡ s.image) × StartsWith t.seen s.seen
