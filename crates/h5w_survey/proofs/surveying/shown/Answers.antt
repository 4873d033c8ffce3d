use Rattle.std.proofs.Common.{◌≡◌, Err, List, ℕ, rules, subst}
use Rattle.std.specs.Prelude.{IfOk}
use Rattle.h5w_model.specs.Programs.{eval}
use Rattle.h5w_survey.specs.Errors.{of_found}
use Rattle.h5w_survey.specs.Lookups.{behind_root}
use Rattle.h5w_survey.specs.Surveys.{ReadsAs, RefusedReading}
use Rattle.h5w_survey.proofs.StepLemmas.{found_stop, no_refusal, shown_as}
use Rattle.h5w_survey.proofs.surveying.shown.Goals as goal

pub returns-in_err-news-clause-step : goal.returns-in_err-news-clause-step
returns-in_err-news-clause-step g c =
    let root = c.args.root in
    let name = c.args.name.now in
    let e = c.in_err-news.field-0.0 in
    let is : c.from_residual-in_err-news.result ≡ Err (of_found e) = search rules in
    rw is (found_stop (λ img. eval img (behind_root root name)) e (λ img s. ReadsAs img root name s) (λ img e. RefusedReading img root name e) c.in_err-news.ensures.ran
    (λ img still f h r said whole. absurd (no_refusal r f (eval img (behind_root root name)) said h)) (λ img r said whole. tt) (λ img r said whole. tt))

pub returns-clause-step : goal.returns-clause-step
returns-clause-step g c =
    let name = c.args.name.now in
    let named : IfOk c.survey_of.result (λ s. s.name ≡ name) = subst (λ (n : List ℕ). IfOk c.survey_of.result (λ s. s.name ≡ n)) c.in_ok-copy.ensures.ok c.survey_of.ensures.named in
    shown_as c.args.root name c.in_ok-news.news c.survey_of.result c.in_ok-news.ensures.ran named c.survey_of.ensures.dataset c.survey_of.ensures.table c.survey_of.ensures.refused c.survey_of.ensures.quiet
