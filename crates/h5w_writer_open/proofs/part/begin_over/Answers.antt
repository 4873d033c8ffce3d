use Rattle.std.proofs.Common.{◌≡◌, Bool, Err, sym, subst, ◌∙◌, ap}
use Rattle.std.proofs.lemmas.Result.{err_from_is_err_and}
use Rattle.h5w_headers.specs.Ran.{seen}
use Rattle.h5w_index.specs.Held.{view_of}
use Rattle.h5w_opening.specs.Views.{opened_of}
use Rattle.h5w_opening.specs.declared.error.OpenError.TheVariants.{OutOfMemory}
use Rattle.h5w_writer_open.specs.OpenSteps.{IsKeptHeader, front_of}
use Rattle.h5w_writer_open.proofs.OpenAnswerLemmas.{begun_so}
use Rattle.h5w_writer_open.proofs.OpenStepLemmas.{step_none, step_on, step_refused, step_stop}
use Rattle.h5w_writer_open.proofs.PartLemmas.{header_kept_at, memory_quiet, part_good, part_is_quiet, part_ready, unfit_part}
use Rattle.h5w_writer_open.proofs.part.begin_over.Goals as goal

pub returns-in_err-index-clause-step : goal.returns-in_err-index-clause-step
returns-in_err-index-clause-step g c =
    let a = c.args in
    let o = opened_of a.found.now in
    let e = c.in_err-index.field-0.0 in
    let gone = err_from_is_err_and c.from_residual.result c.from_residual.ensures.1 in
    let is : c.from_residual.result ≡ Err e = gone.1 ∙ ap (λ x. Err x) gone.2 in
    rw is (step_none _ _ e (part_is_quiet o (seen view_of a.index) e c.requires.read.within c.in_err-index.ensures.first) (λ img. unfit_part img o (seen view_of a.index) e c.in_err-index.ensures.first))

pub returns-in_err-header-clause-step : goal.returns-in_err-header-clause-step
returns-in_err-header-clause-step g c =
    let a = c.args in
    let o = opened_of a.found.now in
    let e = c.in_err-header.field-0.0 in
    let gone = err_from_is_err_and c.from_residual-in_err-header.result c.from_residual-in_err-header.ensures.1 in
    let is : c.from_residual-in_err-header.result ≡ Err e = gone.1 ∙ ap (λ x. Err x) gone.2 in
    rw is (step_stop _ _ e c.in_err-header.ensures.step
    (λ img f no found. absurd (no (subst (λ (b : Bool). IsKeptHeader b (front_of img o.place o.header.len)) (sym c.is_starting-starts.ensures) (header_kept_at img o (seen view_of a.index) c.in_ok-index.ensures.none found)))))

pub session_over-requires-clause-ready : goal.session_over-requires-clause-ready
session_over-requires-clause-ready g c =
    let o = opened_of c.args.found.now in
    part_ready o (seen view_of c.args.index) (view_of c.in_ok-index.index) c.in_ok-header.header c.requires.read c.in_ok-index.ensures.kept c.in_ok-index.ensures.none
    (subst (λ (b : Bool). IsKeptHeader b c.in_ok-header.header) c.is_starting-starts.ensures c.in_ok-header.ensures.writable) c.in_ok-header.ensures.few

pub returns-in_err-session-clause-step : goal.returns-in_err-session-clause-step
returns-in_err-session-clause-step g c =
    let gone = err_from_is_err_and c.from_residual-in_err-session.result c.from_residual-in_err-session.ensures.1 in
    let is : c.from_residual-in_err-session.result ≡ Err OutOfMemory = gone.1 ∙ ap (λ x. Err x) gone.2 in
    rw is (step_refused _ _ c.in_ok-header.header OutOfMemory c.in_ok-header.ensures.step memory_quiet (λ img p. tt))

pub returns-clause-step : goal.returns-clause-step
returns-clause-step g c =
    let a = c.args in
    let o = opened_of a.found.now in
    let s = c.in_ok-session in
    step_on _ _ c.in_ok-header.header s.session c.in_ok-header.ensures.step
    (λ img kept. part_good img o (seen view_of a.index) a.name.now a.limit a.budget c.in_ok-header.header (view_of c.in_ok-index.index) s.session c.in_ok-index.ensures.none c.in_ok-index.ensures.kept kept s.ensures.session)

pub returns-clause-begun : goal.returns-clause-begun
returns-clause-begun g c =
    begun_so (opened_of c.args.found.now) c.in_ok-header.header (view_of c.in_ok-index.index) c.args.name.now c.args.limit c.args.budget c.in_ok-session.session c.in_ok-session.ensures.session
