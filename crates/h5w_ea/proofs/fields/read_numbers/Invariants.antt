use Rattle.std.proofs.Common.{◌≡◌, take}
use Rattle.h5w_model.specs.Arrays.{numbers_in}
use Rattle.h5w_ea.proofs.fields.read_numbers.Given as goal

abbrev pub invariant-loop-i : goal.invariant-loop-i
invariant-loop-i l = take l.i l.numbers ≡ numbers_in l.b l.i l.at
