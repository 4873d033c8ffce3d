use Rattle.std.proofs.Common.{◌≡◌, ◌*◌, ◌∙◌, Some, length, ap, subst, sym}
use Rattle.h5w_input.specs.Scripts.{number_line_of}
use Rattle.h5w_appending.specs.Appends.{columns_of}
use Rattle.h5w_appending.proofs.batching.take_line.Goals as goal

pub take_values-requires-clause-rows : goal.take_values-requires-clause-rows
take_values-requires-clause-rows g c =
    let rows = c.in_ok-values.ensures.rows in
    (rows.0, ap length c.deref.ensures.value ∙ rows.1 ∙ ap (λ k. rows.0 * k) c.columns.ensures.value)

pub returns-clause-steps : goal.returns-clause-steps
returns-clause-steps g c = λ bytes line.
    let values = c.deref.result.now in
    let spelled : number_line_of (columns_of c.args.session.now) bytes ≡ Some values =
    subst (λ k. number_line_of k bytes ≡ Some values) c.columns.ensures.value (c.in_ok-values.ensures.values bytes line ∙ ap Some (sym c.deref.ensures.value)) in
    c.take_values.ensures.steps bytes spelled
