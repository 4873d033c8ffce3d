use Rattle.std.proofs.Common.{◌≡◌, ◌∙◌, None, Err, false, rules, sym, ap}
use Rattle.h5w_model.specs.Programs.{eval}
use Rattle.h5w_dataset.specs.Founds.{founds}
use Rattle.h5w_headers.specs.Headers.{header_of}
use Rattle.h5w_headers.specs.Ran.{seen}
use Rattle.h5w_headers.specs.Walks.{dataset_header_for}
use Rattle.h5w_headers.proofs.RanLemmas.{ran_stop}
use Rattle.h5w_lookup.specs.Attempts.{described_rest, rules_of}
use Rattle.h5w_lookup.specs.Descents.{reading_news}
use Rattle.h5w_lookup.specs.declared.known.Rules.{Rules}
use Rattle.h5w_survey.proofs.ReadingLemmas.{described_place, described_refused}
use Rattle.h5w_survey.proofs.StepLemmas.{ran_on_short}
use Rattle.h5w_survey.proofs.dataset.described.Goals as goal

pub returns-in_err-header : goal.returns-in_err-header
returns-in_err-header g c =
    let e = c.in_err-header.field-0.0 in
    let is : c.from_residual.result ≡ Err e = search rules in
    record { ran = rw is (ran_stop (λ img. eval img (dataset_header_for false c.args.place)) e _ c.in_err-header.ensures.ran (λ img f h. described_refused img c.args.place f h)) }

pub returns : goal.returns
returns g c =
    let h = c.in_ok-header.header in
    let r : Rules = record { attempts = 1; place = c.args.place } in
    record {
      ran = ran_on_short (λ img. eval img (dataset_header_for false c.args.place)) (header_of h) (λ img. eval img (described_rest (rules_of r None) (founds c.deref.result.now))) _ (seen (reading_news None) c.addresses.result)
          c.in_ok-header.ensures.ran c.addresses.ensures.ran
          (λ img fits said. described_place img r (header_of h) fits said ∙ ap (λ ms. eval img (described_rest (rules_of r None) (founds ms))) (sym c.deref.ensures.value));
    }
