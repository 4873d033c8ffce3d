use Rattle.std.proofs.Common.{◌≡◌, ◌+◌, length}
use Rattle.h5w_ohdr.proofs.Listed.{ListedTo}
use Rattle.h5w_ohdr.proofs.walk.walk.Given as goal

abbrev pub invariant-loop-msgs : goal.invariant-loop-msgs
invariant-loop-msgs l = record {
  places : l.place + length l.rest ≡ l.start + length l.b;
  listed : ListedTo l.before l.start l.b l.place l.rest l.msgs;
}

abbrev pub decreases-loop-msgs : goal.decreases-loop-msgs
decreases-loop-msgs l = length l.rest
