-- Readers that have their seats at an image, and the calls that each of them makes.
use Rattle.std.specs.Prelude.{◌≡◌, ◌+◌, ◌≤◌, All, List, Result, vec_len}
use Rattle.h5w_model.specs.Unfinished.{ReaderRules}
use Rattle.h5w_model.specs.declared.piece.Write.{Write}
use Rattle.h5w_reader.specs.Readers.{reader_rules}
use Rattle.h5w_shared.specs.Seats.{SeatView}
use Rattle.h5w_live_reading.specs.Ends.{ReadersEnd}
use Rattle.h5w_live_reading.specs.declared.actors.AllEnded.{AllEnded}
use Rattle.h5w_live_reading.specs.declared.actors.Calls.{Calls}
use Rattle.h5w_live_reading.specs.declared.actors.Cut.{Cut}
use Rattle.h5w_live_reading.specs.declared.actors.Seated.{Seated}

-- the rules of a reader that makes these calls
abbrev pub rules_of : Calls → ReaderRules
rules_of c = reader_rules c.name.now c.attempts

-- each seat is one at the image, and no reader has a number past 32
pub record AreSeated (r : Seated) : Type 0 where
  pub images : All (λ (s : SeatView). s.image ≡ r.image.now) r.seats.items
  pub few : r.before + vec_len r.seats ≤ 32

-- what comes of them, if each seat had seen these pieces at first
abbrev pub ReadersLeave : Calls → Seated → Result AllEnded Cut → Type 0
ReadersLeave c r ended = (seen : List Write) → All (λ (s : SeatView). s.seen ≡ seen) r.seats.items → ReadersEnd (rules_of c) r.image.now r.before c.count (vec_len r.seats) seen ended
