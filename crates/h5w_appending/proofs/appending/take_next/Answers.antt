use Rattle.std.proofs.Common.{◌≡◌, ◌∙◌, Err, ap, refl, inl, inr}
use Rattle.std.proofs.lemmas.Result.{err_from_is_err_and}
use Rattle.h5w_batches.specs.Reads.{error_of}
use Rattle.h5w_appending.specs.Appending.{ending_of, is_last, is_line, is_none, is_refused, is_unread}
use Rattle.h5w_appending.proofs.appending.take_next.Goals as goal

pub returns-in_err-line-clause-next : goal.returns-in_err-line-clause-next
returns-in_err-line-clause-next g c =
    let gone = err_from_is_err_and c.from_residual.result c.from_residual.ensures.1 in
    let is : c.from_residual.result ≡ Err (ending_of (error_of c.in_err-line.field-0.0)) = gone.1 ∙ ap (λ x. Err x) gone.2 in
    rw is (is_unread c.in_err-line.field-0.0 (record { session = refl; disk = refl; sink = refl; rose = λ e. c.in_err-line.ensures.cause (ap Err e); up = λ e. c.in_err-line.ensures.failed (ap Err e); over = λ limit e. c.in_err-line.ensures.input limit (ap Err e) }))

pub returns-in_err-take_line-in-Line-clause-next : goal.returns-in_err-take_line-in-Line-clause-next
returns-in_err-take_line-in-Line-clause-next g c =
    let gone = err_from_is_err_and c.from_residual-in_err-take_line-in-Line.result c.from_residual-in_err-take_line-in-Line.ensures.1 in
    let is : c.from_residual-in_err-take_line-in-Line.result ≡ Err c.in_err-take_line-in-Line.field-0.0 = gone.1 ∙ ap (λ x. Err x) gone.2 in
    let given = rw c.in-Line.is at c.in_ok-line.ensures.line in
    rw is (is_refused given.0 c.in_err-take_line-in-Line.field-0.0 given.2 (inl given.3) (c.in_err-take_line-in-Line.ensures.steps given.0 given.1) c.in_err-take_line-in-Line.ensures.ready)

pub returns-in_ok-take_line-in-Line-clause-next : goal.returns-in_ok-take_line-in-Line-clause-next
returns-in_ok-take_line-in-Line-clause-next g c =
    let given = rw c.in-Line.is at c.in_ok-line.ensures.line in
    let some = c.in_ok-take_line-in-Line.ensures.spelled given.0 given.1 in
    is_line given.0 (record { given = given.2; values = some.0; spelled = some.1; steps = c.in_ok-take_line-in-Line.ensures.steps given.0 given.1; ready = c.in_ok-take_line-in-Line.ensures.ready; columns = c.in_ok-take_line-in-Line.ensures.columns }) given.3

pub returns-in_err-take_line-in-Last-clause-next : goal.returns-in_err-take_line-in-Last-clause-next
returns-in_err-take_line-in-Last-clause-next g c =
    let gone = err_from_is_err_and c.from_residual-in_err-take_line-in-Last.result c.from_residual-in_err-take_line-in-Last.ensures.1 in
    let is : c.from_residual-in_err-take_line-in-Last.result ≡ Err c.in_err-take_line-in-Last.field-0.0 = gone.1 ∙ ap (λ x. Err x) gone.2 in
    let given = rw c.in-Last.is at c.in_ok-line.ensures.line in
    rw is (is_refused given.0 c.in_err-take_line-in-Last.field-0.0 given.2 (inr given.3) (c.in_err-take_line-in-Last.ensures.steps given.0 given.1) c.in_err-take_line-in-Last.ensures.ready)

pub returns-in_ok-take_line-in-Last-clause-next : goal.returns-in_ok-take_line-in-Last-clause-next
returns-in_ok-take_line-in-Last-clause-next g c =
    let given = rw c.in-Last.is at c.in_ok-line.ensures.line in
    let some = c.in_ok-take_line-in-Last.ensures.spelled given.0 given.1 in
    is_last given.0 (record { given = given.2; values = some.0; spelled = some.1; steps = c.in_ok-take_line-in-Last.ensures.steps given.0 given.1; ready = c.in_ok-take_line-in-Last.ensures.ready; columns = c.in_ok-take_line-in-Last.ensures.columns }) given.3

pub returns-in-End-clause-next : goal.returns-in-End-clause-next
returns-in-End-clause-next g c =
    let ended = rw c.in-End.is at c.in_ok-line.ensures.line in
    is_none ended refl refl refl
