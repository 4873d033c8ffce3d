use Rattle.std.proofs.Common.{false, Ok, Err, sym, ap}
use Rattle.h5w_model.specs.Programs.{eval}
use Rattle.h5w_model.specs.Datasets.{HeaderFields}
use Rattle.h5w_model.specs.Findings.{found}
use Rattle.h5w_headers.specs.Walks.{root_header_for}
use Rattle.h5w_headers.specs.Headers.{header_of}
use Rattle.h5w_headers.proofs.ReadingLemmas.{root_reading}
use Rattle.h5w_check.specs.Headers.{finding_for}
use Rattle.h5w_headers.proofs.RanLemmas.{ran_begin}
use Rattle.h5w_check.proofs.FoundLemmas.{ran_found}
use Rattle.h5w_check.proofs.root.root_header.Goals as goal

pub returns-in-Ok : goal.returns-in-Ok
returns-in-Ok g c =
    let place = c.args.place in
    ran_begin _ _ _ (ran_found (λ _. found 6 place) (λ img. eval img (root_header_for false place)) (Ok (header_of c.in-Ok.header)) (rw c.in-Ok.is at c.root_header.ensures.ran))
    (λ img. ap (λ r. finding_for 6 place r) (sym (root_reading img place)))

pub returns-in-Err : goal.returns-in-Err
returns-in-Err g c =
    let place = c.args.place in
    rw c.finding.ensures (ran_begin _ _ _ (ran_found {A = HeaderFields} (λ _. found 6 place) (λ img. eval img (root_header_for false place)) (Err c.in-Err.error) (rw c.in-Err.is at c.root_header.ensures.ran))
    (λ img. ap (λ r. finding_for 6 place r) (sym (root_reading img place))))
