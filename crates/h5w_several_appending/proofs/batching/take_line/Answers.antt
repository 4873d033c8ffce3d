use Rattle.std.proofs.Common.{◌≡◌, ◌∙◌, ℤ, List, Err, Some, ap, sym}
use Rattle.std.proofs.lemmas.Result.{err_from_is_err_and}
use Rattle.h5w_several_batches.specs.SetLines.{set_line_of}
use Rattle.h5w_several_batches.specs.declared.line.SetLine.TheVariants.{Numbers}
use Rattle.h5w_several_appending.specs.Appending.{ending_of}
use Rattle.h5w_several_appending.proofs.StepLemmas.{inside_sets, lines_ended, lines_nothing, lines_use, lines_values, ready_line, ready_nothing, said_rows}
use Rattle.h5w_several_appending.proofs.batching.take_line.Goals as goal

pub returns-in_err-d-clause-ready : goal.returns-in_err-d-clause-ready
returns-in_err-d-clause-ready g c =
    let gone = err_from_is_err_and c.from_residual.result c.from_residual.ensures.1 in
    let is : c.from_residual.result ≡ Err (ending_of c.in_err-d.field-0.0) = gone.1 ∙ ap (λ x. Err x) gone.2 in
    rw is (ready_nothing c.args.target.file.now c.args.session.now c.in_err-d.field-0.0 c.requires.ready)

pub returns-in_err-d-clause-lines : goal.returns-in_err-d-clause-lines
returns-in_err-d-clause-lines g c = λ bytes line.
    let gone = err_from_is_err_and c.from_residual.result c.from_residual.ensures.1 in
    let is : c.from_residual.result ≡ Err (ending_of c.in_err-d.field-0.0) = gone.1 ∙ ap (λ x. Err x) gone.2 in
    rw is (lines_nothing c.args.target.faults c.args.target.file.now c.args.place.columns.now c.args.place.used c.args.place.number bytes c.args.session.now c.in_err-d.field-0.0 (c.in_err-d.ensures.refused bytes line))

pub take_values-requires-clause-inside : goal.take_values-requires-clause-inside
take_values-requires-clause-inside g c = inside_sets c.args.place.columns.now c.args.session.now.parts c.args.place.used c.requires.columns c.requires.inside

pub take_values-requires-clause-rows : goal.take_values-requires-clause-rows
take_values-requires-clause-rows g c =
    let sets = rw c.in-Numbers.is at c.in_ok-d.ensures.sets in
    said_rows c.args.place.columns.now c.args.session.now.parts c.args.place.used c.in-Numbers.values c.as_slice.result.now c.requires.columns c.as_slice.ensures sets

pub returns-in-Use-clause-lines : goal.returns-in-Use-clause-lines
returns-in-Use-clause-lines g c = λ bytes line.
    let spelled = rw c.in-Use.is at (c.in_ok-d.ensures.means bytes line) in
    let low = rw c.in-Use.is at c.in_ok-d.ensures.sets in
    lines_use c.args.target.faults c.args.target.file.now c.args.place.columns.now c.args.place.used c.args.place.number c.in-Use.d bytes c.args.session.now c.requires.columns low spelled

pub returns-in_err-take_values-in-Numbers-clause-ready : goal.returns-in_err-take_values-in-Numbers-clause-ready
returns-in_err-take_values-in-Numbers-clause-ready g c =
    let gone = err_from_is_err_and c.from_residual-in_err-take_values-in-Numbers.result c.from_residual-in_err-take_values-in-Numbers.ensures.1 in
    let is : c.from_residual-in_err-take_values-in-Numbers.result ≡ Err c.in_err-take_values-in-Numbers.field-0.0 = gone.1 ∙ ap (λ x. Err x) gone.2 in
    rw is (ready_line (g.D.Disk.view c.take_values.new.disk) c.args.target.file.now c.take_values.new.session c.in_err-take_values-in-Numbers.field-0.0 c.in_err-take_values-in-Numbers.ensures.ready)

pub returns-in_err-take_values-in-Numbers-clause-lines : goal.returns-in_err-take_values-in-Numbers-clause-lines
returns-in_err-take_values-in-Numbers-clause-lines g c = λ bytes line.
    let gone = err_from_is_err_and c.from_residual-in_err-take_values-in-Numbers.result c.from_residual-in_err-take_values-in-Numbers.ensures.1 in
    let is : c.from_residual-in_err-take_values-in-Numbers.result ≡ Err c.in_err-take_values-in-Numbers.field-0.0 = gone.1 ∙ ap (λ x. Err x) gone.2 in
    let means = rw c.in-Numbers.is at (c.in_ok-d.ensures.means bytes line) in
    let spelled : set_line_of c.args.place.columns.now c.args.place.used bytes ≡ Some (Numbers c.as_slice.result.now) = means ∙ ap (λ (vs : List ℤ). Some (Numbers vs)) (sym c.as_slice.ensures) in
    rw is (lines_ended (g.D.Disk.view c.take_values.new.disk) (g.K.Sink.view c.take_values.new.sink) c.args.target.faults c.args.target.file.now c.args.place.columns.now c.args.place.used c.args.place.number bytes c.as_slice.result.now c.args.session.now c.take_values.new.session
    c.in_err-take_values-in-Numbers.field-0.0 spelled c.in_err-take_values-in-Numbers.ensures.says)

pub returns-in_ok-take_values-in-Numbers-clause-lines : goal.returns-in_ok-take_values-in-Numbers-clause-lines
returns-in_ok-take_values-in-Numbers-clause-lines g c = λ bytes line.
    let means = rw c.in-Numbers.is at (c.in_ok-d.ensures.means bytes line) in
    let spelled : set_line_of c.args.place.columns.now c.args.place.used bytes ≡ Some (Numbers c.as_slice.result.now) = means ∙ ap (λ (vs : List ℤ). Some (Numbers vs)) (sym c.as_slice.ensures) in
    lines_values c.args.target.faults c.args.target.file.now c.args.place.columns.now c.args.place.used c.args.place.number bytes c.as_slice.result.now c.args.session.now c.take_values.new.session spelled c.in_ok-take_values-in-Numbers.ensures.says
