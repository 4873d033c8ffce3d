use Rattle.std.proofs.Common.{◌≡◌, ◌∙◌, Ok, Err, rules}
use Rattle.h5w_model.specs.Datasets.{Described, then_also}
use Rattle.h5w_model.specs.Findings.{header_ranges}
use Rattle.h5w_headers.specs.Headers.{header_of}
use Rattle.h5w_check.specs.Ranges.{after}
use Rattle.h5w_check.specs.Described.{known}
use Rattle.h5w_dataset.specs.Described.{described_of}
use Rattle.h5w_headers.proofs.RanLemmas.{ran_stop, ran_end, ran_refused, told_seen, told_then, step_ok, step_err}
use Rattle.h5w_check.proofs.HeaderLemmas.{dataset_parts, dataset_rest, dataset_found}
use Rattle.h5w_check.proofs.header.dataset.Goals as goal

pub returns-in_err-header : goal.returns-in_err-header
returns-in_err-header g c =
    let s = c.args.s.now in
    let old = c.args.ranges.now in
    let is : c.from_residual.result ≡ Err c.in_err-header.field-0.0 = search rules in
    rw is (ran_stop (λ img. dataset_found img c.args.at) c.in_err-header.field-0.0 _ c.in_err-header.ensures (λ img f said. dataset_parts img s c.args.at old ∙ step_err _ f (dataset_rest s.end c.args.at old) said))

pub returns-in_err-put_header : goal.returns-in_err-put_header
returns-in_err-put_header g c =
    let s = c.args.s.now in
    let old = c.args.ranges.now in
    let h = header_of c.in_ok-header.header in
    let is : c.from_residual-in_err-put_header.result ≡ Err c.in_err-put_header.field-0.0 = search rules in
    rw is (ran_refused (λ img. dataset_found img c.args.at) h (after old (header_ranges s.end h.ranges)) c.in_err-put_header.field-0.0 _ c.in_ok-header.ensures (rw c.deref.ensures.value at c.in_err-put_header.ensures)
    (λ img f said gone. dataset_parts img s c.args.at old ∙ step_ok _ h (dataset_rest s.end c.args.at old) said ∙ step_err _ f _ gone))

pub returns : goal.returns
returns g c =
    let s = c.args.s.now in
    let old = c.args.ranges.now in
    let h = header_of c.in_ok-header.header in
    let mid = c.put_header.new.self in
    let put = rw c.deref.ensures.value at c.in_ok-put_header.ensures in
    let said = rw c.deref-2.ensures.value at c.known.ensures in
    ran_end (λ img. dataset_found img c.args.at) h (dataset_rest s.end c.args.at old h) _ _ c.in_ok-header.ensures
    (told_then (after old (header_ranges s.end h.ranges)) mid (λ us. then_also (known c.args.at h.messages) (λ d. Ok (d, us))) _ put
    (told_seen (known c.args.at h.messages) c.known.result described_of (λ (d : Described). (d, mid)) said))
    (λ img said. dataset_parts img s c.args.at old ∙ step_ok _ h (dataset_rest s.end c.args.at old) said)
