-- What writes an image.
use Rattle.h5w_replica.specs.Feeds.{fed_seat}
use Rattle.h5w_shared.specs.Seats.{SeatView}
use Rattle.h5w_pen.specs.declared.pen.Hand.{Hand}
use Rattle.h5w_pen.specs.declared.pen.Hand.TheVariants.{Alone, Fed}

-- the seat of what writes, with the room that there is for pieces that were not sent on too
abbrev pub seat_of : Hand → SeatView
seat_of (Alone seat) = seat
seat_of (Fed feed) = fed_seat feed
