use Rattle.std.proofs.Common.{◌∙◌, None, sym, ap}
use Rattle.h5w_model.specs.Programs.{eval}
use Rattle.h5w_image.proofs.ViewLemmas.{looked_twice}
use Rattle.h5w_looks.proofs.ReadLemmas.{still_on}
use Rattle.h5w_lookup.specs.Attempts.{looked_up, rules_of}
use Rattle.h5w_survey.proofs.looking.looked_up.Goals as goal

pub returns-in_err-step-in-Looks-clause-looked : goal.returns-in_err-step-in-Looks-clause-looked
returns-in_err-step-in-Looks-clause-looked g c = looked_twice c.loop-step.invariant.looked c.one_look.ensures.looked

pub loop-step-preserved : goal.loop-step-preserved
loop-step-preserved g c = record {
  looked = looked_twice c.loop-step.invariant.looked c.one_look.ensures.looked;
  exact = λ img still.
      c.in_ok-step-in-Looks.ensures.exact img (still_on img c.loop-step.invariant.looked still)
      ∙ ap (λ s. eval img (looked_up (rules_of c.args.rules.now None) s)) (sym c.in-Looks.is) ∙ c.loop-step.invariant.exact img still;
}
