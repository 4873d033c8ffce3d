use Rattle.std.proofs.Common.{false, Ok, Err, sym, ap}
use Rattle.h5w_model.specs.Programs.{eval}
use Rattle.h5w_model.specs.Datasets.{HeaderFields, refused_as}
use Rattle.h5w_model.specs.Findings.{dataset_finding}
use Rattle.h5w_headers.specs.Walks.{dataset_header_for}
use Rattle.h5w_headers.specs.Headers.{header_of}
use Rattle.h5w_headers.proofs.ReadingLemmas.{dataset_reading}
use Rattle.h5w_headers.proofs.RanLemmas.{ran_begin}
use Rattle.h5w_check.proofs.FoundLemmas.{ran_found}
use Rattle.h5w_check.proofs.header.dataset_header.Goals as goal

pub returns-in-Ok : goal.returns-in-Ok
returns-in-Ok g c =
    let place = c.args.at in
    ran_begin _ _ _ (ran_found (dataset_finding place) (λ img. eval img (dataset_header_for false place)) (Ok (header_of c.in-Ok.header)) (rw c.in-Ok.is at c.dataset_header.ensures.ran))
    (λ img. ap (λ r. refused_as (dataset_finding place) r) (sym (dataset_reading img place)))

pub returns-in-Err : goal.returns-in-Err
returns-in-Err g c =
    let place = c.args.at in
    rw c.dataset_finding.ensures (ran_begin _ _ _ (ran_found {A = HeaderFields} (dataset_finding place) (λ img. eval img (dataset_header_for false place)) (Err c.in-Err.error) (rw c.in-Err.is at c.dataset_header.ensures.ran))
    (λ img. ap (λ r. refused_as (dataset_finding place) r) (sym (dataset_reading img place))))
