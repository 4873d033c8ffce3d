use Rattle.std.proofs.Common.{◌≡◌, ◌+◌, ◌*◌, ◌++◌, take, drop, flat_map}
use Rattle.h5w_model.specs.Numbers.{le}
use Rattle.h5w_bytes.proofs.several.put_each.Given as goal

abbrev pub invariant-loop-i : goal.invariant-loop-i
invariant-loop-i l = l.b ≡ (take l.at l.fn.b ++ flat_map (le l.width) (take l.i l.numbers)) ++ drop (l.at + l.width * l.i) l.fn.b
