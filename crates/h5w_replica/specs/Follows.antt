-- The end of a mirror that writes the second image: what contracts see of it, and what its calls leave.
use Rattle.std.specs.Prelude.{◌≡◌, ◌⊎◌, ℕ, ◌-◌, ◌≤◌, ◌<◌, List, [], ◌∷◌, ◌++◌, drop, length, Option, Some, None, IfSome}
use mathlib.Core.List.{IsPrefix}
use Rattle.h5w_image.specs.declared.fault.ImageError.{ImageError}
use Rattle.h5w_image.specs.declared.fault.ImageError.TheVariants as image
use Rattle.h5w_model.specs.declared.piece.Write.{Write}
use Rattle.h5w_shared.specs.Seats.{SeatView}
use Rattle.h5w_replica.specs.declared.refusal.FollowError.{FollowError}
use Rattle.h5w_replica.specs.declared.refusal.FollowError.TheVariants.{Failed, OutOfMemory}
use Rattle.h5w_replica.specs.Batches.{BatchView, IsPartOf, Leads, PortionView}
use Rattle.h5w_replica.specs.Mirrors.{Mirrored}
use Rattle.h5w_replica.specs.Putting.{HasPut, HasPutSome}
use Rattle.h5w_replica.specs.Rings.{RingId}

pub record FollowView : Type 0 where
  -- the seat on the first image, and the writer's seat on the second
  pub seat : SeatView
  pub second : SeatView
  -- the batches that came out of the ring, and those that are known to be in it, the oldest first
  pub got : List BatchView
  pub known : List BatchView
  -- the batch that waits for the next step; its note was met
  pub kept : Option PortionView
  pub ring : RingId

-- the batch that a call takes on: the one that was kept, or else the next one out of the ring, which comes first of those that were known
pub record Takes (f g : FollowView) (p : PortionView) : Type 0 where
  pub some : 1 ≤ length p.pieces
  pub from : (f.kept ≡ Some p) × (g.got ≡ f.got) × (g.known ≡ f.known) ⊎ (f.kept ≡ None) × ((b : BatchView) × (b.portion ≡ p) × (g.got ≡ f.got ++ b ∷ []) × IsPrefix f.known (b ∷ g.known))

-- the pieces of a portion that come behind so many of its list
abbrev pub lacking : ℕ → PortionView → List Write
lacking have p = drop (have - p.first) p.pieces

-- A batch of so many pieces was taken on, and the second history holds them all where they belong: those that it had were passed over, and
-- the others were written. No batch is kept.
pub record HasStepped (n : ℕ) (f g : FollowView) : Type 0 where
  pub batch : PortionView
  pub takes : Takes f g batch
  pub count : n ≡ length batch.pieces
  pub some : 1 ≤ n
  pub begins : batch.first ≤ length f.second.seen
  pub put : HasPut (lacking (length f.second.seen) batch) f.second g.second
  pub holds : IsPartOf g.second.seen batch
  pub kept : g.kept ≡ None

-- the batch that was taken on begins past the second history; it is dropped, and nothing was written
pub record HasGap (first have : ℕ) (f g : FollowView) : Type 0 where
  pub batch : PortionView
  pub takes : Takes f g batch
  pub first_is : first ≡ batch.first
  pub have_is : have ≡ length f.second.seen
  pub past : have < first
  pub second : g.second ≡ f.second
  pub kept : g.kept ≡ None

-- the batch that was taken on is kept; of what the second history lacks of it the first pieces were written, then this error came
pub record HasKept (error : ImageError) (f g : FollowView) : Type 0 where
  pub batch : PortionView
  pub takes : Takes f g batch
  pub begins : batch.first ≤ length f.second.seen
  pub put : HasPutSome (lacking (length f.second.seen) batch) error f.second g.second
  pub kept : g.kept ≡ Some batch

-- an error of the second image, as one of following
abbrev pub follow_error : ImageError → FollowError
follow_error image.Failed = Failed
follow_error image.OutOfMemory = OutOfMemory

-- ---- What a follower keeps

-- its ring leads with the first image, its second history is a beginning of what its seat has seen of the first, and the batch that it keeps is a part of that
pub record IsFollow (seat second : SeatView) (received : List BatchView) (kept : Option PortionView) : Type 0 where
  pub leads : Leads seat.image received
  pub mirrored : Mirrored seat.seen second.seen
  pub part : IfSome kept (λ p. IsPartOf seat.seen p × (1 ≤ length p.pieces))
