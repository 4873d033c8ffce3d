use Rattle.std.proofs.Common.{arith}
use Rattle.std.proofs.lemmas.Grind.{common_steps}
use Rattle.h5w_ea.proofs.header.Eahd.decode.Goals as goal

pub check_fixed-requires-clause-inside : goal.check_fixed-requires-clause-inside
check_fixed-requires-clause-inside c = grind (arith, common_steps)

pub check_fixed-requires-clause-below : goal.check_fixed-requires-clause-below
check_fixed-requires-clause-below c = omega arith

pub returns-in_err-check_fixed : goal.returns-in_err-check_fixed
returns-in_err-check_fixed c = grind (arith, common_steps)

pub slice_bounds-read_numbers-end : goal.slice_bounds-read_numbers-end
slice_bounds-read_numbers-end c = omega arith

pub read_numbers-requires : goal.read_numbers-requires
read_numbers-requires c = grind (arith, common_steps)

pub number-requires-clause-low : goal.number-requires-clause-low
number-requires-clause-low c = omega arith

pub number-requires-clause-high : goal.number-requires-clause-high
number-requires-clause-high c = omega arith

pub number-requires-clause-inside : goal.number-requires-clause-inside
number-requires-clause-inside c = grind (arith, common_steps)
