use Rattle.std.proofs.Common.{Err, subst, sym, ap}
use Rattle.h5w_check.specs.Verdicts.{summary_of}
use Rattle.h5w_survey.specs.Steps.{SurveyStep}
use Rattle.h5w_several_laws.specs.Together.{IsAllValid}
use Rattle.h5w_survey.specs.Surveys.{IsRefusedFor}
use Rattle.h5w_survey.proofs.StepLemmas.{checked_err, checked_ok}
use Rattle.h5w_survey.proofs.surveying.checked.Goals as goal
use Rattle.h5w_survey.proofs.surveying.checked.Goals.{in-Ok, in-Err}

pub returns : goal.returns
returns g c =
    let names = c.args.names.now in
    let v = g.I.PieceRead.view c.args.from.now in
    let w = g.I.PieceRead.view c.check.new.image in
    record {
      step = elim c.match-check.branch [
        | in-Ok x ↦ rw x.result-is (checked_ok names (summary_of x.in-Ok.field-0) x.in-Ok.ensures.looked x.in-Ok.ensures.exact)
        | in-Err x ↦
            rw x.result-is (subst (λ e. SurveyStep {A = Unit {0}} v w (λ img a. IsAllValid img names) (λ img e. IsRefusedFor img names e) (Err e)) (sym x.from.ensures)
            (checked_err names x.in-Err.error x.in-Err.ensures.looked x.in-Err.ensures.exact (λ f. x.in-Err.ensures.failed (ap (λ x. Err x) f))))
      ];
    }
