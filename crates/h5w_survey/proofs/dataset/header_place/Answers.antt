use Rattle.std.proofs.Common.{◌≡◌, Err, false, rules}
use Rattle.h5w_model.specs.Programs.{eval}
use Rattle.h5w_model.specs.Datasets.{linked}
use Rattle.h5w_dataset.specs.Founds.{founds}
use Rattle.h5w_headers.specs.Headers.{header_of}
use Rattle.h5w_headers.specs.Walks.{root_header_for}
use Rattle.h5w_headers.proofs.RanLemmas.{ran_end, ran_stop}
use Rattle.h5w_survey.proofs.ReadingLemmas.{place_of_root, place_refused}
use Rattle.h5w_survey.proofs.dataset.header_place.Goals as goal

pub returns-in_err-header : goal.returns-in_err-header
returns-in_err-header g c =
    let e = c.in_err-header.field-0.0 in
    let is : c.from_residual.result ≡ Err e = search rules in
    record { ran = rw is (ran_stop (λ img. eval img (root_header_for false c.args.root)) e _ c.in_err-header.ensures.ran (λ img f h. place_refused img c.args.name.now c.args.root f h)) }

pub returns : goal.returns
returns g c =
    let h = c.in_ok-header.header in
    record {
      ran = ran_end (λ img. eval img (root_header_for false c.args.root)) (header_of h) (linked c.args.name.now (founds h.messages.items)) _ c.place_of.result c.in_ok-header.ensures.ran c.place_of.ensures.told
          (λ img said. place_of_root img c.args.name.now c.args.root (header_of h) said);
    }
