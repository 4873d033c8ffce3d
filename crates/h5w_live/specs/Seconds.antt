-- A second image, which a mirror writes.
use Rattle.std.specs.Prelude.{◌≡◌, ℕ, ◌≤◌, [], All, None, Option, Some, vec_len}
use Rattle.h5w_shared.specs.Seats.{ImageId, SeatView}
use Rattle.h5w_live.specs.declared.following.Second.{Second}
use Rattle.h5w_live.specs.declared.seats.Watched.{Watched}

-- the second image is that of a mirror of this one; it had no bytes at first
pub record IsSecondOf (i : ImageId) (s : Second) : Type 0 where
  pub first : s.follow.seat.image ≡ i
  pub second : s.follow.second.image ≡ s.image
  pub start : s.image.start ≡ []

-- and each seat is one at it
pub record IsWatched (i : ImageId) (w : Watched) : Type 0 where
  pub second : IsSecondOf i w.second
  pub images : All (λ (s : SeatView). s.image ≡ w.second.image) w.seats.items
  pub few : vec_len w.seats ≤ 16

-- how many readers a second image has
abbrev pub watchers : Option Watched → ℕ
watchers None = 0
watchers (Some w) = vec_len w.seats
