use Rattle.std.proofs.Common.{◌≡◌, ◌-◌, ◌≤◌}
use Rattle.std.specs.Prelude.{drop, take}
use Rattle.h5w_replica.specs.Putting.{HasPut}
use Rattle.h5w_replica.proofs.putting.put_pieces.Given as goal

abbrev pub invariant-loop-k : goal.invariant-loop-k
invariant-loop-k g l = HasPut (take (l.k - l.from) (drop l.from l.pieces.writes)) l.fn.seat l.seat × (l.seat.image ≡ l.image) × (l.from ≤ l.k)
