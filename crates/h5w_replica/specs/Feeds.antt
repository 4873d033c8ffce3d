-- The end of a mirror that writes the first image: what contracts see of it, and what its calls leave.
use Rattle.std.specs.Prelude.{◌≡◌, ℕ, ◌+◌, ◌-◌, ◌≤◌, List, [], ◌∷◌, ◌++◌, length, max, Option, IfSome}
use Rattle.h5w_model.specs.declared.piece.Write.{Write}
use Rattle.h5w_shared.specs.Seats.{FailedSeat, HasMadeRoom, SeatView, note_of}
use Rattle.h5w_replica.specs.Batches.{AreShort, BatchView, GoesOn, Leads, batches_in, end_to_end, pieces_back, queue}
use Rattle.h5w_replica.specs.Rings.{RingId}

pub record FeedView : Type 0 where
  -- the writer's seat on the first image
  pub seat : SeatView
  -- the batches that the ring took, the oldest first, and the one that it gave back
  pub took : List BatchView
  pub back : Option BatchView
  -- the pieces that no batch has yet
  pub unsent : List Write
  -- so many pieces more can be written without memory
  pub room : ℕ
  -- so many places of the ring are known to be free
  pub free : ℕ
  pub ring : RingId

-- the batches that the ring took, then the one that it gave back, then the unsent pieces are end to end the writer's list
pub record IsFed (f : FeedView) : Type 0 where
  pub list : f.seat.seen ≡ (end_to_end f.took ++ pieces_back f.back) ++ f.unsent

-- the seat as a call sees it through the feed: with the room that there is for unsent pieces too
abbrev pub fed_seat : FeedView → SeatView
fed_seat f = record (f.seat) { pieces = f.room }

-- with one piece more, which no batch has yet; it used the room of one
abbrev pub with_piece : Write → FeedView → FeedView
with_piece w f = record f {
  seat = record (f.seat) { seen = f.seat.seen ++ w ∷ []; pieces = f.seat.pieces - 1 };
  unsent = f.unsent ++ w ∷ [];
  room = f.room - 1;
}

-- there is room for so many pieces, which end by this place, and no less than before; all else is as it was
pub record HasRoomFed (pieces end : ℕ) (f g : FeedView) : Type 0 where
  pub seat : HasMadeRoom pieces end f.seat g.seat
  pub same : g ≡ record f { seat = g.seat; room = max f.room pieces }

-- the seat failed; all else is as it was
pub record FailedFeed (f g : FeedView) : Type 0 where
  pub seat : FailedSeat f.seat g.seat
  pub same : g ≡ record f { seat = g.seat }

-- the ring took batches: at least as many as places were known to be free, or else more places are known now
pub record HasTaken (f g : FeedView) : Type 0 where
  pub taken : List BatchView
  pub took : g.took ≡ f.took ++ taken
  pub free : f.free ≤ g.free + length taken

-- the batch has all pieces that no batch had, and a note of what the writer's seat has seen
pub record HasUnsent (f : FeedView) (b : BatchView) : Type 0 where
  pub pieces : b.portion.pieces ≡ f.unsent
  pub first : b.portion.first + length f.unsent ≡ length f.seat.seen
  pub note : b.note ≡ note_of f.seat

-- these batches are new: none, or one of all pieces that no batch had
abbrev pub AreNew : FeedView → FeedView → List BatchView → Type 0
AreNew f g [] = g.unsent ≡ f.unsent
AreNew f g (b ∷ bs) = HasUnsent f b × (bs ≡ []) × (g.unsent ≡ [])

-- the batches stay in their order, and a new one comes last
pub record KeepsOrder (f g : FeedView) : Type 0 where
  pub new : List BatchView
  pub order : queue g.took g.back ≡ queue f.took f.back ++ new
  pub are_new : AreNew f g new

-- ---- What a feed keeps

-- The feed's parts are those of one mirror: the ring leads with the image, the batches and the unsent pieces are the writer's list, and what the ring gave back may go in again.
pub record IsFeed (seat : SeatView) (sent : List BatchView) (back : Option BatchView) (unsent : List Write) : Type 0 where
  pub leads : Leads seat.image sent
  pub list : seat.seen ≡ (end_to_end (batches_in sent) ++ pieces_back back) ++ unsent
  pub follows : IfSome back (λ b. GoesOn seat.image (end_to_end (batches_in sent)) b)
  pub short : AreShort seat.seen

-- the room for pieces is there in the image and among the unsent
pub record HasBothRooms (room pieces reserved : ℕ) : Type 0 where
  pub image : room ≤ pieces
  pub unsent : room ≤ reserved
