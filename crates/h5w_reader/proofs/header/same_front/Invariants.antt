use Rattle.std.proofs.Common.{◌≡◌, ℕ, ◌+◌, ◌-◌, ◌≤◌, length, take, drop}
use Rattle.h5w_model.specs.Calls.{difference_from}
use Rattle.h5w_reader.proofs.header.same_front.Given as goal

abbrev pub invariant-loop-n : goal.invariant-loop-n
invariant-loop-n l = record {
  first : l.n ≤ length l.a;
  last : l.n ≤ length l.b;
  front : take l.n l.a ≡ take l.n l.b;
  difference : (p : ℕ) → difference_from p l.a l.b ≡ difference_from (p + l.n) (drop l.n l.a) (drop l.n l.b);
}

abbrev pub decreases-loop-n : goal.decreases-loop-n
decreases-loop-n l = length l.a - l.n
