use Rattle.std.proofs.Common.{◌≡◌, Ok, Err, ◌∙◌, ap}
use Rattle.std.proofs.lemmas.Result.{err_from_is_err_and}
use Rattle.h5w_headers.specs.Ran.{seen}
use Rattle.h5w_index.specs.Held.{view_of}
use Rattle.h5w_opening.specs.Views.{opened_of}
use Rattle.h5w_writer_open.specs.OpenAnswers.{unfound}
use Rattle.h5w_writer_open.proofs.FrontLemmas.{lacks_none, no_block_quiet}
use Rattle.h5w_writer_open.proofs.OpenStepLemmas.{bad_index, found_good, not_opened, ran_step, step_both, step_refused, step_stop, step_then_stop}
use Rattle.h5w_writer_open.proofs.SessionOver.{known_says}
use Rattle.h5w_writer_open.proofs.opening.found_in.Goals as goal

pub returns-in_err-found-clause-step : goal.returns-in_err-found-clause-step
returns-in_err-found-clause-step g c =
    let a = c.args in
    let e = c.in_err-found.field-0.0 in
    let gone = err_from_is_err_and c.from_residual.result c.from_residual.ensures.1 in
    let is : c.from_residual.result ≡ Err e = gone.1 ∙ ap (λ x. Err x) gone.2 in
    rw is (step_stop (found_good a.size a.name.now) (not_opened a.size a.name.now) e (ran_step a.size a.name.now (Err e) c.in_err-found.ensures.ran c.in_err-found.ensures.kinds) (λ img f h. unfound f h))

pub index_of-requires : goal.index_of-requires
index_of-requires g c = record { few = (known_says (opened_of c.in_ok-found.found).header c.in_ok-found.ensures.found.said).few }

pub returns-in_err-index-clause-step : goal.returns-in_err-index-clause-step
returns-in_err-index-clause-step g c =
    let a = c.args in
    let o = c.in_ok-found.found in
    let e = c.in_err-index.field-0.0 in
    let gone = err_from_is_err_and c.from_residual-in_err-index.result c.from_residual-in_err-index.ensures.1 in
    let is : c.from_residual-in_err-index.result ≡ Err e = gone.1 ∙ ap (λ x. Err x) gone.2 in
    rw is (step_then_stop (found_good a.size a.name.now) (not_opened a.size a.name.now) o e (ran_step a.size a.name.now (Ok o) c.in_ok-found.ensures.ran tt) c.in_err-index.ensures.step
    (λ img said f bad. bad_index img a.size a.name.now (opened_of o) f said bad))

pub returns-in_err-check_block-clause-step : goal.returns-in_err-check_block-clause-step
returns-in_err-check_block-clause-step g c =
    let a = c.args in
    let o = c.in_ok-found.found in
    let e = c.in_err-check_block.field-0.0 in
    let gone = err_from_is_err_and c.from_residual-in_err-check_block.result c.from_residual-in_err-check_block.ensures.1 in
    let is : c.from_residual-in_err-check_block.result ≡ Err e = gone.1 ∙ ap (λ x. Err x) gone.2 in
    let both = step_both (found_good a.size a.name.now) (not_opened a.size a.name.now) o c.in_ok-index.index (o, c.in_ok-index.index) (ran_step a.size a.name.now (Ok o) c.in_ok-found.ensures.ran tt) c.in_ok-index.ensures.step
    (λ img said index. record { is = said; index = index }) in
    rw is (step_refused (found_good a.size a.name.now) (not_opened a.size a.name.now) (o, c.in_ok-index.index) e both (no_block_quiet e c.in_err-check_block.ensures.refused)
    (λ img f. absurd (lacks_none img a.size a.name.now (opened_of o) (seen view_of c.in_ok-index.index) c.in_ok-found.ensures.found f c.in_err-check_block.ensures.lacks)))

pub returns-clause-step : goal.returns-clause-step
returns-clause-step g c =
    let a = c.args in
    let o = c.in_ok-found.found in
    step_both (found_good a.size a.name.now) (not_opened a.size a.name.now) o c.in_ok-index.index (o, c.in_ok-index.index) (ran_step a.size a.name.now (Ok o) c.in_ok-found.ensures.ran tt) c.in_ok-index.ensures.step
    (λ img said index. record { is = said; index = index })
