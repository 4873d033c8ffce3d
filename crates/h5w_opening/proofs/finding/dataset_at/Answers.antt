use Rattle.std.proofs.Common.{◌≡◌, true, Ok, Err, rules}
use Rattle.h5w_model.specs.Programs.{eval}
use Rattle.h5w_model.specs.Datasets.{HeaderFields, refused_as}
use Rattle.h5w_headers.specs.Walks.{dataset_header_for}
use Rattle.h5w_dataset.specs.Founds.{founds}
use Rattle.h5w_headers.specs.Headers.{header_of}
use Rattle.h5w_headers.proofs.RanLemmas.{ran_stop, ran_end, step_ok, step_err}
use Rattle.h5w_headers.proofs.KindLemmas.{ran_as}
use Rattle.h5w_opening.specs.Errors.{open_error}
use Rattle.h5w_opening.specs.Openings.{chunk_0_len, known}
use Rattle.h5w_opening.specs.declared.error.OpenError.TheVariants.{Read}
use Rattle.h5w_opening.proofs.OpeningLemmas.{all_read, said_by}
use Rattle.h5w_opening.proofs.finding.dataset_at.Goals as goal

pub returns-in_err-header-clause-ran : goal.returns-in_err-header-clause-ran
returns-in_err-header-clause-ran g c =
    let e = c.in_err-header.field-0.0 in
    let is : c.from_residual.result ≡ Err (open_error e) = search rules in
    rw is (ran_stop (λ img. refused_as Read (eval img (dataset_header_for true c.args.place))) (open_error e) _
    (ran_as Read open_error (λ img. eval img (dataset_header_for true c.args.place)) (Err e) all_read c.in_err-header.ensures.ran)
    (λ img f said. step_err _ f (λ (h : HeaderFields). known (chunk_0_len h.ranges) h.messages) said))

pub returns-clause-ran : goal.returns-clause-ran
returns-clause-ran g c =
    let h = header_of c.in_ok-header.header in
    ran_end (λ img. refused_as Read (eval img (dataset_header_for true c.args.place))) h (known (chunk_0_len h.ranges) h.messages) _ _
    (ran_as Read open_error (λ img. eval img (dataset_header_for true c.args.place)) (Ok h) all_read c.in_ok-header.ensures.ran)
    (rw (c.chunk_0_len-len.ensures, c.deref.ensures.value, c.deref-2.ensures.value) at c.known.ensures.told)
    (λ img said. step_ok _ h (λ (h : HeaderFields). known (chunk_0_len h.ranges) h.messages) said)

pub returns-clause-said : goal.returns-clause-said
returns-clause-said g c = said_by c.chunk_0_len-len.result (founds c.deref-2.result.now) c.known.result c.known.ensures.told c.known.ensures.len
