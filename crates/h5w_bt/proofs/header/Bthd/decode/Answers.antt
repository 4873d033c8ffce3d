use Rattle.std.proofs.lemmas.Grind.{common_steps}
use Rattle.std.proofs.Common.{arith, sym, drop, codes}
use Rattle.std.proofs.lemmas.Result.{err_from_is_err_and}
use Rattle.h5w_model.specs.Blocks.{block_tests}
use Rattle.h5w_model.specs.Trees.{bthd_tests, bthd_fields}
use Rattle.h5w_bt.proofs.Refusals.{refused-append, none}
use Rattle.h5w_bt.proofs.header.Bthd.decode.Goals as goal

pub returns-in_err-check_block : goal.returns-in_err-check_block
returns-in_err-check_block c =
    let p = err_from_is_err_and c.from_residual.result c.from_residual.ensures.1 in
    let b = c.args.b.now in
    record { exact = rw (p.1, p.2) (sym (refused-append (block_tests (codes "BTHD") 38 b) (drop 3 (bthd_tests b c.args.at)) none (bthd_fields b) c.in_err-check_block.field-0.0 (sym c.in_err-check_block.ensures.exact))) }

pub check_block-requires : goal.check_block-requires
check_block-requires c = omega arith

pub check_sizes-requires-clause-inside : goal.check_sizes-requires-clause-inside
check_sizes-requires-clause-inside c = grind (arith, common_steps)

pub check_sizes-requires-clause-below : goal.check_sizes-requires-clause-below
check_sizes-requires-clause-below c = omega arith

pub returns-in_err-check_sizes : goal.returns-in_err-check_sizes
returns-in_err-check_sizes c = grind (arith, common_steps)

pub number-depth-requires-clause-low : goal.number-depth-requires-clause-low
number-depth-requires-clause-low c = omega arith

pub number-depth-requires-clause-high : goal.number-depth-requires-clause-high
number-depth-requires-clause-high c = omega arith

pub number-depth-requires-clause-inside : goal.number-depth-requires-clause-inside
number-depth-requires-clause-inside c = grind (arith, common_steps)

pub overflow_add-result : goal.overflow_add-result
overflow_add-result c = grind (arith, common_steps)

pub returns-then-depth-gt-DEEPEST : goal.returns-then-depth-gt-DEEPEST
returns-then-depth-gt-DEEPEST c = grind (arith, common_steps)

pub check_percents-requires-clause-inside : goal.check_percents-requires-clause-inside
check_percents-requires-clause-inside c = grind (arith, common_steps)

pub check_percents-requires-clause-below : goal.check_percents-requires-clause-below
check_percents-requires-clause-below c = omega arith

pub returns-in_err-check_percents : goal.returns-in_err-check_percents
returns-in_err-check_percents c = grind (arith, common_steps)

pub number-records-requires-clause-low : goal.number-records-requires-clause-low
number-records-requires-clause-low c = omega arith

pub number-records-requires-clause-high : goal.number-records-requires-clause-high
number-records-requires-clause-high c = omega arith

pub number-records-requires-clause-inside : goal.number-records-requires-clause-inside
number-records-requires-clause-inside c = grind (arith, common_steps)

pub capacity-requires : goal.capacity-requires
capacity-requires c = omega arith

pub overflow_add-result-then-records-capacity : goal.overflow_add-result-then-records-capacity
overflow_add-result-then-records-capacity c = grind (arith, common_steps)

pub returns-then-records-capacity : goal.returns-then-records-capacity
returns-then-records-capacity c = grind (arith, common_steps)

pub number-requires-clause-low : goal.number-requires-clause-low
number-requires-clause-low c = omega arith

pub number-requires-clause-high : goal.number-requires-clause-high
number-requires-clause-high c = omega arith

pub number-requires-clause-inside : goal.number-requires-clause-inside
number-requires-clause-inside c = grind (arith, common_steps)

pub number-requires-2-clause-low : goal.number-requires-2-clause-low
number-requires-2-clause-low c = omega arith

pub number-requires-2-clause-high : goal.number-requires-2-clause-high
number-requires-2-clause-high c = omega arith

pub number-requires-2-clause-inside : goal.number-requires-2-clause-inside
number-requires-2-clause-inside c = grind (arith, common_steps)

pub returns : goal.returns
returns c = grind (arith, common_steps)
