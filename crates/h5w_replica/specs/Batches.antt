-- Portions of a list of pieces, the batches that carry them through a ring, and in what order these come.
use Rattle.std.specs.Prelude.{◌≡◌, ℕ, ◌≤◌, List, [], ◌∷◌, ◌++◌, length, Option, Some, None}
use Rattle.std.specs.List.{All}
use Rattle.h5w_model.specs.declared.piece.Write.{Write}
use Rattle.h5w_shared.specs.Seats.{ImageId, NoteView}

-- pieces, and how many others stand before them in their list
pub record PortionView : Type 0 where
  pub first : ℕ
  pub pieces : List Write

-- the portion stands in this list, behind as many pieces as it says
pub record IsPartOf (seen : List Write) (p : PortionView) : Type 0 where
  pub before : List Write
  pub after : List Write
  pub seen_is : seen ≡ before ++ (p.pieces ++ after)
  pub first_is : p.first ≡ length before

-- a portion, and a note of what its writer had seen when it was made
pub record BatchView : Type 0 where
  pub portion : PortionView
  pub note : NoteView

-- the pieces of these batches, end to end
abbrev pub end_to_end : List BatchView → List Write
end_to_end [] = []
end_to_end (b ∷ bs) = b.portion.pieces ++ end_to_end bs

-- the pieces of the batch that the ring gave back, where there is one
abbrev pub pieces_back : Option BatchView → List Write
pieces_back None = []
pieces_back (Some b) = b.portion.pieces

-- the batches that the ring took, and behind them the one that it gave back
abbrev pub queue : List BatchView → Option BatchView → List BatchView
queue took None = took
queue took (Some b) = took ++ b ∷ []

-- no piece has more bytes than a piece may have
abbrev pub AreShort : List Write → Type 0
AreShort ws = All (λ w. length w.piece ≤ 512) ws

-- ---- What goes through a ring

-- the first item that goes into a ring is no batch: it names the image; the batches are all behind it
abbrev pub batches_in : List BatchView → List BatchView
batches_in [] = []
batches_in (greeting ∷ bs) = bs

-- the first item names this image
pub record Leads (image : ImageId) (items : List BatchView) : Type 0 where
  pub greeting : BatchView
  pub items_are : items ≡ greeting ∷ batches_in items
  pub image_is : greeting.note.image ≡ image

-- the batch is of this image, has pieces, and they stand behind these
pub record GoesOn (image : ImageId) (before : List Write) (b : BatchView) : Type 0 where
  pub image_is : b.note.image ≡ image
  pub first_is : b.portion.first ≡ length before
  pub some : 1 ≤ length b.portion.pieces

-- what may go into a ring behind these items: anything at first, then batches of the image that the first item names, each behind the pieces of those before it
abbrev pub Follows : List BatchView → BatchView → Type 0
Follows [] b = Unit {0}
Follows (greeting ∷ bs) b = GoesOn greeting.note.image (end_to_end bs) b
