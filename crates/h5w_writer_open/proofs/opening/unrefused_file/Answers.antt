use Rattle.std.proofs.Common.{◌≡◌, Bool, Err, sym, subst, ◌∙◌, ap}
use Rattle.std.proofs.lemmas.Result.{err_from_is_err_and}
use Rattle.h5w_headers.specs.Ran.{seen}
use Rattle.h5w_index.specs.Held.{view_of}
use Rattle.h5w_opening.specs.Views.{opened_of}
use Rattle.h5w_writer_open.proofs.OpenStepLemmas.{file_good, file_is, first_quiet, not_opened, refused_file, step_both, step_refused, step_then_stop, writable_front}
use Rattle.h5w_writer_open.specs.OpenSteps.{IsKeptHeader, front_of}
use Rattle.h5w_writer_open.proofs.SessionOver.{known_says, ready_index}
use Rattle.h5w_writer_open.proofs.opening.unrefused_file.Goals as goal

pub unrefused-requires-clause-few : goal.unrefused-requires-clause-few
unrefused-requires-clause-few g c = (known_says (opened_of c.in_ok-found.found).header c.in_ok-found.ensures.found.said).few

pub returns-in_err-index-clause-step : goal.returns-in_err-index-clause-step
returns-in_err-index-clause-step g c =
    let a = c.args in
    let o = opened_of c.in_ok-found.found in
    let e = c.in_err-index.field-0.0 in
    let gone = err_from_is_err_and c.from_residual-in_err-index.result c.from_residual-in_err-index.ensures.1 in
    let is : c.from_residual-in_err-index.result ≡ Err e = gone.1 ∙ ap (λ x. Err x) gone.2 in
    rw is (step_refused (file_good a.size a.name.now) (not_opened a.size a.name.now) (c.in_ok-found.found, c.in_ok-found.index) e c.in_ok-found.ensures.step
    (first_quiet o (seen view_of c.in_ok-found.index) e c.in_err-index.ensures.first) (λ img f. refused_file img a.size a.name.now o (seen view_of c.in_ok-found.index) e f c.in_err-index.ensures.first))

pub returns-in_err-header-clause-step : goal.returns-in_err-header-clause-step
returns-in_err-header-clause-step g c =
    let a = c.args in
    let o = opened_of c.in_ok-found.found in
    let e = c.in_err-header.field-0.0 in
    let gone = err_from_is_err_and c.from_residual-in_err-header.result c.from_residual-in_err-header.ensures.1 in
    let is : c.from_residual-in_err-header.result ≡ Err e = gone.1 ∙ ap (λ x. Err x) gone.2 in
    rw is (step_then_stop (file_good a.size a.name.now) (not_opened a.size a.name.now) (c.in_ok-found.found, c.in_ok-found.index) e c.in_ok-found.ensures.step c.in_err-header.ensures.step
    (λ img f x no. absurd (no (subst (λ (b : Bool). IsKeptHeader b (front_of img o.place o.header.len)) (sym c.is_starting-starts.ensures) (writable_front img a.size a.name.now o (seen view_of c.in_ok-found.index) f.is c.in_ok-index.ensures.none)))))

pub returns-clause-step : goal.returns-clause-step
returns-clause-step g c =
    let a = c.args in
    let o = opened_of c.in_ok-found.found in
    step_both (file_good a.size a.name.now) (not_opened a.size a.name.now) (c.in_ok-found.found, c.in_ok-found.index) c.in_ok-header.header (c.in_ok-found.found, c.in_ok-header.header, c.in_ok-index.index) c.in_ok-found.ensures.step
    c.in_ok-header.ensures.step
    (λ img f kept. file_is img a.size a.name.now o (seen view_of c.in_ok-found.index) (view_of c.in_ok-index.index) c.in_ok-header.header f c.in_ok-index.ensures.kept c.in_ok-index.ensures.none kept)

pub returns-clause-ready : goal.returns-clause-ready
returns-clause-ready g c =
    let o = opened_of c.in_ok-found.found in
    record {
      found = c.in_ok-found.ensures.found;
      index = seen view_of c.in_ok-found.index;
      ready = ready_index o (seen view_of c.in_ok-found.index) (view_of c.in_ok-index.index) c.in_ok-found.ensures.named c.in_ok-index.ensures.kept c.in_ok-index.ensures.none;
      made = c.in_ok-found.ensures.made;
      unrefused = c.in_ok-index.ensures.none;
      header_kept = subst (λ (b : Bool). IsKeptHeader b c.in_ok-header.header) c.is_starting-starts.ensures c.in_ok-header.ensures.writable;
      few = c.in_ok-header.ensures.few;
    }
