-- What clauses see of the shared image, of seats and of notes.
use Rattle.std.specs.Prelude.{◌≡◌, ℕ, ◌≤◌, Bool, true, false, List, [], ◌∷◌, ◌++◌, length, Some, None, if◌then◌else◌}
use Rattle.h5w_model.specs.Causes.{Rose}
use Rattle.h5w_model.specs.Images.{image}
use Rattle.h5w_model.specs.declared.piece.Write.{Write}
use Rattle.h5w_image.specs.View.{ImageView}
use Rattle.atomic_table.specs.Seated.{TableId}
use Rattle.h5w_shared.specs.declared.place.Place.{Place}
use Rattle.h5w_shared.specs.Places.{AtRest}

-- which shared image it is, and the bytes that it began with
pub record ImageId : Type 0 where
  pub table : TableId
  pub start : List ℕ

-- what a seat knows, and what it counts
pub record SeatView : Type 0 where
  -- the image that it is of
  pub image : ImageId
  -- the pieces that it has seen, the oldest first
  pub seen : List Write
  -- how often a call failed
  pub faults : ℕ
  -- it was shown the ticket word at 2^63
  pub worn : Bool
  -- the room that is reserved: so many pieces, which end by this place; 0 for a reader's seat
  pub pieces : ℕ
  pub end : ℕ

-- what a note says
pub record NoteView : Type 0 where
  pub image : ImageId
  pub seen : List Write

-- a new reader's seat that knows as much
abbrev pub reader_of : SeatView → SeatView
reader_of s = record { image = s.image; seen = s.seen; faults = 0; worn = false; pieces = 0; end = 0 }

abbrev pub note_of : SeatView → NoteView
note_of s = record { image = s.image; seen = s.seen }

-- the writer's seat of an image that nobody wrote yet, with this room
abbrev pub first_seat : ImageId → ℕ → ℕ → SeatView
first_seat i pieces end = record { image = i; seen = []; faults = 0; worn = false; pieces = pieces; end = end }

-- the bytes that the seat has seen: those after its pieces
abbrev pub bytes_of : SeatView → List ℕ
bytes_of s = image s.image.start s.seen

-- the seat failed: it was shown the ticket word at 2^63, and counts it; all else is as it was
pub record FailedSeat (s t : SeatView) : Type 0 where
  pub same : t ≡ record s { faults = t.faults; worn = true }
  pub counted : Rose s.faults t.faults
  pub kept : s.faults ≤ t.faults

-- there is room for so many pieces, which end by this place, and no less than before; all else is as it was
pub record HasMadeRoom (pieces end : ℕ) (s t : SeatView) : Type 0 where
  pub same : t ≡ record s { pieces = t.pieces; end = t.end }
  pub asked : pieces ≤ t.pieces
  pub asked_end : end ≤ t.end
  pub kept : s.pieces ≤ t.pieces
  pub kept_end : s.end ≤ t.end

-- the image that a seat is of, as numbers
abbrev pub numbers_of : ImageId → List ℕ
numbers_of i =
    i.table.words ∷ i.table.slots ∷ i.table.views_name ∷ i.table.atom ∷ i.table.block ∷ i.table.offset ∷ length i.table.slot_names ∷ i.table.slot_names ++ i.start

-- the image that a call sees through a seat, under the reference's name
abbrev pub seen_through : Bool → ℕ → SeatView → ImageView
seen_through alone name s = record {
  bytes = Some (bytes_of s);
  history = Some s.seen;
  disk = None;
  alone = alone;
  faults = s.faults;
  through = name ∷ numbers_of s.image;
  pieces = s.pieces;
  end = s.end;
}

-- ---- Of a seat at the table

abbrev pub image_of : Place → ImageId
image_of p = record { table = p.seat.table_id; start = p.seat.me.0.start }

abbrev pub writer_view : Place → SeatView
writer_view p = record { image = image_of p; seen = p.seat.me.0.seen; faults = p.faults; worn = p.worn; pieces = p.seat.me.0.pieces; end = p.seat.me.0.end }

abbrev pub reader_view : Place → SeatView
reader_view p = record { image = image_of p; seen = p.seat.me.0.seen; faults = p.faults; worn = p.worn; pieces = 0; end = 0 }

abbrev pub note_view : Place → NoteView
note_view p = record { image = image_of p; seen = p.seat.me.0.seen }

-- between two turns, the writer's or not
abbrev pub Rests : Bool → Place → Type 0
Rests writes p = AtRest p × (p.seat.me.0.writes ≡ writes)

-- the seat that a worn one keeps, the writer's or not
abbrev pub worn_view : Place → Bool → SeatView
worn_view p writes = if writes then writer_view p else reader_view p
