-- The readers of a machine of several datasets, each in its place, with the dataset that it was opened for.
use Rattle.std.specs.Prelude.{◌≡◌, ℕ, List, get_or, replicate, Option, Some, None, option_map}
use Rattle.h5w_model.specs.Unfinished.{ReaderRules, Reader}
use Rattle.h5w_model.specs.declared.reply.Reply.{Reply}
use Rattle.h5w_model.specs.declared.reply.Reply.TheVariants as replies
use Rattle.h5w_reader.specs.Readers.{new_reader}
use Rattle.h5w_reader.specs.declared.reader.ReaderCore.{ReaderCore}
use Rattle.h5w_core.specs.Readers.{ended, placed}
use Rattle.h5w_several_core.specs.declared.places.Place.{Place}

-- a reader with the number of its dataset
abbrev pub seat_of : ℕ → Option Reader → Option (ℕ × Reader)
seat_of d None = None
seat_of d (Some x) = Some (d, x)

-- what contracts see of a place
abbrev pub seated : Place → Option (ℕ × Reader)
seated p = seat_of p.dataset (placed p.reader)

-- a place without a reader
abbrev pub vacant : Place
vacant = record { dataset = 0; reader = None }

-- the place of a reader of the only dataset, or of none
abbrev pub only_place : Option ReaderCore → Place
only_place r = record { dataset = 0; reader = r }

-- places for readers 0 to 16, of which none was opened
abbrev pub nobody : List Place
nobody = replicate 17 vacant

-- the readers by number; who was not opened, or has no place, is none
abbrev pub reader_in : List Place → ℕ → Option Reader
reader_in places r = placed (get_or places r vacant).reader

-- with the number of the dataset
abbrev pub place_at : List Place → ℕ → Option (ℕ × Reader)
place_at places r = seated (get_or places r vacant)

-- a reader begins to open a dataset, where none is there
abbrev pub SeatOpens : (n d : ℕ) → ReaderRules → Option (ℕ × Reader) → Reply → Option (ℕ × Reader) → Type 0
SeatOpens n d rules None reply new = (reply ≡ replies.Opening n) × (new ≡ Some (d, new_reader rules))
SeatOpens n d rules (Some p) reply new = (reply ≡ replies.ReaderExists n) × (new ≡ Some p)

-- a reader whose unfinished call was taken away
abbrev pub seat_ended : Option (ℕ × Reader) → Option (ℕ × Reader)
seat_ended seat = option_map (λ (p : ℕ × Reader). (p.0, ended p.1)) seat
