use Rattle.std.proofs.Common.{◌≡◌, ◌∙◌, Err, refl, rules, sym}
use Rattle.h5w_model.specs.Numbers.{range}
use Rattle.h5w_model.specs.Superblock.{super_at}
use Rattle.h5w_model.specs.Datasets.{refused_as, super_refusal}
use Rattle.h5w_laws.proofs.ResultLemmas.{refused_ok}
use Rattle.h5w_survey.specs.Errors.{of_found}
use Rattle.h5w_survey.specs.Surveys.{ClosedSuper, RefusedSuper}
use Rattle.h5w_survey.proofs.StepLemmas.{found_stop, super_there}
use Rattle.h5w_survey.proofs.flags.closed.Goals as goal

pub returns-in_err-s : goal.returns-in_err-s
returns-in_err-s g c =
    let e = c.in_err-s.field-0.0 in
    let is : c.from_residual.result ≡ Err (of_found e) = search rules in
    record {
      step = rw is (found_stop (λ img. refused_as super_refusal (super_at (range img 0 48))) e ClosedSuper RefusedSuper c.in_err-s.ensures.ran (λ img still r h name valid. absurd (super_there img name r valid h)) (λ img name valid. tt) (λ img name valid. tt));
    }

pub returns-then-is_written : goal.returns-then-is_written
returns-then-is_written g c =
    let s = c.in_ok-s.s in
    record {
      step = record {
        looked = c.in_ok-s.ensures.ran.looked;
        cause = λ h. absurd cc;
        exact = λ img still name valid. record {
          valid = valid;
          super = s;
          decoded = refused_ok super_refusal (super_at (range img 0 48)) s (c.in_ok-s.ensures.ran.exact img still);
          opened = sym c.is_written.ensures ∙ c.if-is_written.true;
          flags_are = refl;
        };
      };
    }

pub returns : goal.returns
returns g c =
    let s = c.in_ok-s.s in
    record {
      step = record {
        looked = c.in_ok-s.ensures.ran.looked;
        cause = λ h. absurd cc;
        exact = λ img still. record {
          decoded = refused_ok super_refusal (super_at (range img 0 48)) s (c.in_ok-s.ensures.ran.exact img still);
          closed = sym c.is_written.ensures ∙ c.if-is_written.false;
        };
      };
    }
