use Rattle.std.proofs.Common.{◌≡◌, ◌+◌, length}
use Rattle.h5w_ohdr.proofs.Sought.{SoughtFrom}
use Rattle.h5w_ohdr.proofs.walk.first.Given as goal

abbrev pub invariant-loop-head : goal.invariant-loop-head
invariant-loop-head l = record {
  places : l.place + length l.rest ≡ l.start + length l.b;
  sought : SoughtFrom l.before l.start l.kind l.b l.place l.rest;
}

abbrev pub decreases-loop-head : goal.decreases-loop-head
decreases-loop-head l = length l.rest
