use Rattle.std.proofs.Common.{◌≡◌, None, Err, rules}
use Rattle.h5w_model.specs.Programs.{eval}
use Rattle.h5w_headers.specs.Ran.{seen}
use Rattle.h5w_headers.proofs.RanLemmas.{ran_on, ran_stop}
use Rattle.h5w_lookup.specs.Descents.{reading_news}
use Rattle.h5w_survey.specs.Lookups.{behind_place, place_behind}
use Rattle.h5w_survey.proofs.ReadingLemmas.{root_err, root_ok}
use Rattle.h5w_survey.proofs.dataset.dataset.Goals as goal

pub returns-in_err-place : goal.returns-in_err-place
returns-in_err-place g c =
    let e = c.in_err-place.field-0.0 in
    let is : c.from_residual.result ≡ Err e = search rules in
    record { ran = rw is (ran_stop (λ img. eval img (place_behind c.args.root c.args.name.now)) e _ c.in_err-place.ensures.ran (λ img f h. root_err img c.args.name.now c.args.root f h)) }

pub returns : goal.returns
returns g c =
    let at = c.in_ok-place.place in
    record {
      ran = ran_on (λ img. eval img (place_behind c.args.root c.args.name.now)) at (λ img. eval img (behind_place at)) _ (seen (reading_news None) c.described.result) c.in_ok-place.ensures.ran c.described.ensures.ran
          (λ img said. root_ok img c.args.name.now c.args.root at said);
    }
