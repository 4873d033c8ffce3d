use Rattle.std.proofs.Common.{◌≡◌, Err, rules}
use Rattle.h5w_several_laws.specs.Together.{IsAllValid}
use Rattle.h5w_survey.specs.Surveys.{ClosedSuper, IsRefusedFor, IsSurveyOf, RefusedSuper}
use Rattle.h5w_survey.proofs.StepLemmas.{step_then_stop, survey_done}
use Rattle.h5w_survey.proofs.surveying.survey.Goals as goal

pub returns-in_err-s-clause-step : goal.returns-in_err-s-clause-step
returns-in_err-s-clause-step g c =
    let names = c.args.names.now in
    let e = c.in_err-s.field-0.0 in
    let is : c.from_residual-in_err-s.result ≡ Err e = search rules in
    rw is (step_then_stop (λ img a. IsAllValid img names) (λ img e. IsRefusedFor img names e) tt ClosedSuper (λ img v. IsSurveyOf img names v.items) RefusedSuper (λ img e. IsRefusedFor img names e) e c.in_ok-checked.ensures.step c.in_err-s.ensures.step
    (λ img still valid refused. refused names valid))

pub returns-clause-step : goal.returns-clause-step
returns-clause-step g c = survey_done c.args.names.now c.in_ok-s.s c.all_shown.result c.in_ok-checked.ensures.step c.in_ok-s.ensures.step c.all_shown.ensures.step
