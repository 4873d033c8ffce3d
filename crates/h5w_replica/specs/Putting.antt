-- What a seat has written, and what shows that it failed.
use Rattle.std.specs.Prelude.{◌≡◌, ◌<◌, ◌≤◌, List, ◌++◌, true}
use Rattle.h5w_image.specs.declared.fault.ImageError.{ImageError}
use Rattle.h5w_image.specs.declared.fault.ImageError.TheVariants.{Failed, OutOfMemory}
use Rattle.h5w_model.specs.Causes.{Rose}
use Rattle.h5w_model.specs.declared.piece.Write.{Write}
use Rattle.h5w_shared.specs.Seats.{SeatView}

-- these pieces were written behind the others; the seat has other room, and all else is as it was
pub record HasPut (ws : List Write) (s t : SeatView) : Type 0 where
  pub same : t ≡ record s { seen = s.seen ++ ws; pieces = t.pieces; end = t.end }

-- the seat counts a fault exactly where it failed
abbrev pub Counts : ImageError → SeatView → SeatView → Type 0
Counts Failed s t = Rose s.faults t.faults × (s.faults ≤ t.faults) × (t.worn ≡ true)
Counts OutOfMemory s t = (t.faults ≡ s.faults) × (t.worn ≡ s.worn)

-- of these pieces the first were written, then this error came
pub record HasPutSome (ws : List Write) (error : ImageError) (s t : SeatView) : Type 0 where
  pub done : List Write
  pub left : List Write
  pub split : ws ≡ done ++ left
  pub same : t ≡ record s { seen = s.seen ++ done; faults = t.faults; worn = t.worn; pieces = t.pieces; end = t.end }
  pub counts : Counts error s t

-- this keeps the seat, which counts a fault
abbrev pub KeepsWorn : SeatView → SeatView → Type 0
KeepsWorn s w = (0 < s.faults) × (w ≡ s) × (w.worn ≡ true)
