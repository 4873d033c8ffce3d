use Rattle.std.proofs.Common.{◌≡◌, ◌∙◌, true, Ok, Err, rules}
use Rattle.h5w_model.specs.Programs.{eval}
use Rattle.h5w_model.specs.Datasets.{HeaderFields, linked, refused_as}
use Rattle.h5w_headers.specs.Walks.{root_header_for}
use Rattle.h5w_headers.specs.Headers.{header_of}
use Rattle.h5w_headers.proofs.RanLemmas.{ran_stop, ran_refused, ran_end, step_ok, step_err}
use Rattle.h5w_headers.proofs.KindLemmas.{ran_as, told_as}
use Rattle.h5w_opening.specs.Errors.{open_error}
use Rattle.h5w_opening.specs.declared.error.OpenError.TheVariants.{Read}
use Rattle.h5w_opening.proofs.OpeningLemmas.{all_read}
use Rattle.h5w_opening.proofs.finding.header_place.Goals as goal

pub returns-in_err-header-clause-ran : goal.returns-in_err-header-clause-ran
returns-in_err-header-clause-ran g c =
    let e = c.in_err-header.field-0.0 in
    let is : c.from_residual.result ≡ Err (open_error e) = search rules in
    rw is (ran_stop (λ img. refused_as Read (eval img (root_header_for true c.args.root))) (open_error e) _
    (ran_as Read open_error (λ img. eval img (root_header_for true c.args.root)) (Err e) all_read c.in_err-header.ensures.ran)
    (λ img f said. step_err _ f (λ (h : HeaderFields). refused_as Read (linked c.args.name.now h.messages)) said))

pub returns-in_err-place-clause-ran : goal.returns-in_err-place-clause-ran
returns-in_err-place-clause-ran g c =
    let e = c.in_err-place.field-0.0 in
    let h = header_of c.in_ok-header.header in
    let is : c.from_residual-in_err-place.result ≡ Err (open_error e) = search rules in
    rw is (ran_refused (λ img. refused_as Read (eval img (root_header_for true c.args.root))) h (refused_as Read (linked c.args.name.now h.messages)) (open_error e) _
    (ran_as Read open_error (λ img. eval img (root_header_for true c.args.root)) (Ok h) all_read c.in_ok-header.ensures.ran)
    (told_as Read open_error (linked c.args.name.now h.messages) (Err e) all_read c.in_err-place.ensures.told)
    (λ img f said gone. step_ok _ h (λ (h : HeaderFields). refused_as Read (linked c.args.name.now h.messages)) said ∙ gone))

pub returns-clause-ran : goal.returns-clause-ran
returns-clause-ran g c =
    let h = header_of c.in_ok-header.header in
    ran_end (λ img. refused_as Read (eval img (root_header_for true c.args.root))) h (refused_as Read (linked c.args.name.now h.messages)) _ _
    (ran_as Read open_error (λ img. eval img (root_header_for true c.args.root)) (Ok h) all_read c.in_ok-header.ensures.ran)
    (told_as Read open_error (linked c.args.name.now h.messages) (Ok c.in_ok-place.place) all_read c.in_ok-place.ensures.told)
    (λ img said. step_ok _ h (λ (h : HeaderFields). refused_as Read (linked c.args.name.now h.messages)) said)
