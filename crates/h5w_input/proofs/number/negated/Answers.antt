use Rattle.std.proofs.Common.{arith}
use Rattle.std.proofs.lemmas.Grind.{common_steps}
use Rattle.h5w_input.proofs.number.negated.Goals as goal

pub returns-then-n-eq0 : goal.returns-then-n-eq0
returns-then-n-eq0 c = grind (arith, common_steps)

pub overflow_sub-result : goal.overflow_sub-result
overflow_sub-result c = omega arith

pub overflow_cast-result : goal.overflow_cast-result
overflow_cast-result c = omega arith

pub overflow_sub-result-2 : goal.overflow_sub-result-2
overflow_sub-result-2 c = grind (arith, common_steps)

pub overflow_sub-result-3 : goal.overflow_sub-result-3
overflow_sub-result-3 c = grind (arith, common_steps)

pub returns : goal.returns
returns c = grind (arith, common_steps)
