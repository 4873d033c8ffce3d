use Rattle.std.proofs.Common.{◌≡◌, ◌≤◌, ◌^◌, ◌+◌, ◌∙◌, length, sym, Ok, Err, arith}
use Rattle.h5w_model.specs.Headers.{prefix_at}
use Rattle.h5w_dataset.proofs.ListedLemmas.{prefix_never}
use Rattle.h5w_reader.proofs.OpenLemmas.{first_err, first_small, first_long, first_edge, opened_walked}
use Rattle.h5w_reader.proofs.open.Opening.after_look.Goals as goal

pub new-rest-requires-clause-behind : goal.new-rest-requires-clause-behind
new-rest-requires-clause-behind c =
    let few : length c.in_ok-got.got.items ≤ 512 = rw (c.in_ok-got.ensures.items, c.as_slice-bytes.ensures) c.requires.small in
    omega arith

pub header_refusal-requires-clause-overrun : goal.header_refusal-requires-clause-overrun
header_refusal-requires-clause-overrun c = prefix_never c.as_slice-bytes.result.now c.in-Err.error (sym c.prefix.ensures.exact ∙ c.in-Err.is)

pub returns-in-Err : goal.returns-in-Err
returns-in-Err c =
    let first = c.args.first.now in
    let said : prefix_at first ≡ Err c.in-Err.error = rw (← c.as_slice-bytes.ensures) (sym c.prefix.ensures.exact ∙ c.in-Err.is) in
    rw c.in_ok-header_refusal-in-Err.ensures.exact (sym (first_err c.args.place first c.in-Err.error said))

pub returns-then-p : goal.returns-then-p
returns-then-p c =
    let first = c.args.first.now in
    let said : prefix_at first ≡ Ok c.in-Ok.p = rw (← c.as_slice-bytes.ensures) (sym c.prefix.ensures.exact ∙ c.in-Ok.is) in
    opened_walked c.in_ok-walked.walked c.map_looks.result c.map_looks.ensures ∙ c.in_ok-walked.ensures ∙ rw c.as_slice-bytes.ensures (sym (first_small c.args.place first c.in-Ok.p said c.if-p.true))

pub returns-then-place : goal.returns-then-place
returns-then-place c =
    let first = c.args.first.now in
    let said : prefix_at first ≡ Ok c.in-Ok.p = rw (← c.as_slice-bytes.ensures) (sym c.prefix.ensures.exact ∙ c.in-Ok.is) in
    let edge : 2 ^ 64 ≤ c.args.place + 512 = omega arith in
    opened_walked c.in_ok-walked-2.walked c.map_looks-then-place.result c.map_looks-then-place.ensures ∙ c.in_ok-walked-2.ensures ∙ rw c.as_slice-bytes.ensures (sym (first_edge c.args.place first c.in-Ok.p said c.if-p.false edge))

pub returns : goal.returns
returns c =
    let first = c.args.first.now in
    let said : prefix_at first ≡ Ok c.in-Ok.p = rw (← c.as_slice-bytes.ensures) (sym c.prefix.ensures.exact ∙ c.in-Ok.is) in
    rw (c.new-rest.ensures.left, c.new-rest.ensures.start, c.in_ok-got.ensures.items, c.as_slice-bytes.ensures) (sym (first_long c.args.place first c.in-Ok.p said c.if-p.false))
