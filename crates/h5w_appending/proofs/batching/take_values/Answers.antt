use Rattle.std.proofs.Common.{◌≡◌, ◌≤◌, ◌∙◌, [], Some, Err, length, ap, rules, arith}
use Rattle.std.proofs.lemmas.Result.{err_from_is_err_and}
use Rattle.std.proofs.lemmas.Grind.{common_steps}
use Rattle.h5w_appending.proofs.StepLemmas.{line_appends, line_closes, line_columns, line_ready, line_refused}
use Rattle.h5w_appending.proofs.batching.take_values.Goals as goal

pub returns-then-is_empty-clause-steps : goal.returns-then-is_empty-clause-steps
returns-then-is_empty-clause-steps g c = λ bytes spelled.
    let none : c.args.values.now ≡ [] = first_of (search rules, grind (arith, common_steps)) in
    line_closes _ _ c.args.target.faults c.args.target.file.now c.args.session.now c.close_batch.new.session bytes c.args.number c.close_batch.result (spelled ∙ ap Some none) c.close_batch.ensures.steps

pub append_values-requires-clause-rows : goal.append_values-requires-clause-rows
append_values-requires-clause-rows g c = (c.requires.rows.0, c.requires.rows.1)

pub returns-in_err-append_values-clause-steps : goal.returns-in_err-append_values-clause-steps
returns-in_err-append_values-clause-steps g c = λ bytes spelled.
    let gone = err_from_is_err_and c.from_residual.result c.from_residual.ensures.1 in
    let is : c.from_residual.result ≡ Err c.in_err-append_values.field-0.0 = gone.1 ∙ ap (λ x. Err x) gone.2 in
    rw is (line_refused _ c.args.target.faults c.args.target.file.now c.args.session.now c.append_values.new.session bytes c.args.number c.args.values.now c.in_err-append_values.field-0.0 c.in_err-append_values.ensures.unput spelled c.in_err-append_values.ensures.appends)

pub returns-clause-ready : goal.returns-clause-ready
returns-clause-ready g c =
    line_ready _ c.args.target.faults c.args.target.file.now c.args.session.now c.append_values.new.session c.put_all.new.session c.args.values.now c.put_all.result c.requires.ready c.in_ok-append_values.ensures.unput c.in_ok-append_values.ensures.appends c.put_all.ensures

pub returns-clause-columns : goal.returns-clause-columns
returns-clause-columns g c =
    line_columns _ c.args.target.faults c.args.target.file.now c.args.session.now c.append_values.new.session c.put_all.new.session c.args.values.now c.put_all.result c.in_ok-append_values.ensures.appends c.put_all.ensures

pub returns-clause-steps : goal.returns-clause-steps
returns-clause-steps g c = λ bytes spelled.
    let some : 1 ≤ length c.args.values.now = first_of (search rules, grind (arith, common_steps)) in
    line_appends _ _ c.args.target.faults c.args.target.file.now c.args.session.now c.append_values.new.session c.put_all.new.session bytes c.args.number c.requires.rows.0 c.args.values.now c.put_all.result c.requires.ready c.in_ok-append_values.ensures.unput spelled
    some c.requires.rows.1 c.in_ok-append_values.ensures.appends c.put_all.ensures
