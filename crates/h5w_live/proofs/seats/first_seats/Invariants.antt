use Rattle.std.proofs.Common.{◌≡◌, All, vec_len}
use Rattle.h5w_shared.specs.Seats.{SeatView}
use Rattle.h5w_live.proofs.seats.first_seats.Given as goal

abbrev pub invariant-loop : goal.invariant-loop
invariant-loop l = record {
  same : l.seat ≡ l.initial.seat;
  count : vec_len l.seats ≡ l.counter;
  images : All (λ (s : SeatView). s.image ≡ l.image) l.seats.items;
  seen : All (λ (s : SeatView). s.seen ≡ l.initial.seat.seen) l.seats.items;
}
