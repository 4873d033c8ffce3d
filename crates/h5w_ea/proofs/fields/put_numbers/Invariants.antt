use Rattle.std.proofs.Common.{◌≡◌, ◌+◌, ◌*◌, ◌++◌, take, drop}
use Rattle.h5w_model.specs.Arrays.{number_bytes}
use Rattle.h5w_ea.proofs.fields.put_numbers.Given as goal

abbrev pub invariant-loop-i : goal.invariant-loop-i
invariant-loop-i l = l.out ≡ (take l.at l.fn.out ++ number_bytes (take l.i l.numbers)) ++ drop (l.at + 8 * l.i) l.fn.out
