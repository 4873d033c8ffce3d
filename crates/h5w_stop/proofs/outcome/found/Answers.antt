use Rattle.std.proofs.Common.{ℕ, ◌≤◌, ◌^◌, List, length, refl, subst, arith}
use Rattle.std.specs.Prelude.{option_map}
use Rattle.h5w_looks.specs.Still.{IsStill}
use Rattle.h5w_reader.specs.Cores.{reader}
use Rattle.h5w_reader.specs.Readers.{StepTells}
use Rattle.h5w_reader.specs.declared.step.Step.{Step}
use Rattle.h5w_answers.specs.Answering.{evaluated}
use Rattle.h5w_stop.specs.Images.{still}
use Rattle.h5w_stop.proofs.OutcomeLemmas.{found_rows, refused_ok}
use Rattle.h5w_stop.proofs.outcome.found.Goals as goal

pub returns-in-Ok-Rows-clause-outcome : goal.returns-in-Ok-Rows-clause-outcome
returns-in-Ok-Rows-clause-outcome c = λ name begun.
    let img : List ℕ = c.args.image.now in
    let fits : length img ≤ 2 ^ 64 = omega (arith, c.len-end.ensures, c.len-end.type_inv) in
    let short : IsStill (still img) img = record { told = refl; alone = refl; short = omega (arith, c.len-end.ensures, c.len-end.type_inv) } in
    let tells = subst (λ (s : Step). StepTells (option_map (evaluated img) (reader c.args.reader.now).left) (reader c.args.reader.now) s (reader c.answer.new.reader)) c.in-Ok-Rows.field-0-is (c.in-Ok-Rows.ensures.exact img short) in
    found_rows img name 8 fits (reader c.args.reader.now) (reader c.answer.new.reader) begun c.in-Ok-Rows.rows tells

pub returns-in-Ok-Refused-clause-outcome : goal.returns-in-Ok-Refused-clause-outcome
returns-in-Ok-Refused-clause-outcome c = λ name begun.
    let img : List ℕ = c.args.image.now in
    let fits : length img ≤ 2 ^ 64 = omega (arith, c.len-end.ensures, c.len-end.type_inv) in
    let short : IsStill (still img) img = record { told = refl; alone = refl; short = omega (arith, c.len-end.ensures, c.len-end.type_inv) } in
    let tells = subst (λ (s : Step). StepTells (option_map (evaluated img) (reader c.args.reader.now).left) (reader c.args.reader.now) s (reader c.answer.new.reader)) c.in-Ok-Refused.field-0-is (c.in-Ok-Refused.ensures.exact img short) in
    refused_ok img name 8 fits (reader c.args.reader.now) (reader c.answer.new.reader) begun c.refused.result c.in-Ok-Refused.error tells c.refused.ensures.outcome c.refused.ensures.known
