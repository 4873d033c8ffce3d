use Rattle.std.proofs.Common.{◌≡◌, ◌∙◌, ℕ, List, [], Ok, Err, rules}
use Rattle.h5w_model.specs.Datasets.{then_also}
use Rattle.h5w_model.specs.Findings.{checked_links, header_ranges}
use Rattle.h5w_headers.specs.Headers.{header_of}
use Rattle.h5w_check.specs.Ranges.{after}
use Rattle.h5w_headers.proofs.RanLemmas.{ran_stop, ran_end, ran_refused, told_seen, told_then, step_ok, step_err}
use Rattle.h5w_check.proofs.RootLemmas.{root_parts, root_rest}
use Rattle.h5w_check.proofs.root.root.Goals as goal

pub returns-in_err-header : goal.returns-in_err-header
returns-in_err-header g c =
    let s = c.args.s.now in
    let names = c.args.names.now in
    let old = c.args.ranges.now in
    let is : c.from_residual.result ≡ Err c.in_err-header.field-0.0 = search rules in
    rw is (ran_stop _ c.in_err-header.field-0.0 _ c.in_err-header.ensures (λ img f said. root_parts img names s old ∙ step_err _ f (root_rest names s old) said))

pub returns-in_err-put_header : goal.returns-in_err-put_header
returns-in_err-put_header g c =
    let s = c.args.s.now in
    let names = c.args.names.now in
    let old = c.args.ranges.now in
    let h = header_of c.in_ok-header.header in
    let is : c.from_residual-in_err-put_header.result ≡ Err c.in_err-put_header.field-0.0 = search rules in
    rw is (ran_refused _ h (after old (header_ranges s.end h.ranges)) c.in_err-put_header.field-0.0 _ c.in_ok-header.ensures (rw c.deref.ensures.value at c.in_err-put_header.ensures)
    (λ img f said gone. root_parts img names s old ∙ step_ok _ h (root_rest names s old) said ∙ step_err _ f _ gone))

pub returns : goal.returns
returns g c =
    let s = c.args.s.now in
    let names = c.args.names.now in
    let old = c.args.ranges.now in
    let h = header_of c.in_ok-header.header in
    let mid = c.put_header.new.self in
    let put = rw c.deref.ensures.value at c.in_ok-put_header.ensures in
    ran_end _ h (root_rest names s old h) _ _ c.in_ok-header.ensures
    (told_then (after old (header_ranges s.end h.ranges)) mid (λ us. then_also (checked_links s.root [] names h.messages) (λ places. Ok (places, us))) _ put
    (told_seen (checked_links s.root [] names h.messages) c.places.result (λ v. v.items) (λ (places : List ℕ). (places, mid)) c.places.ensures))
    (λ img said. root_parts img names s old ∙ step_ok _ h (root_rest names s old) said)
