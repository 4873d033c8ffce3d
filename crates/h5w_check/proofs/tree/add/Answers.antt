use Rattle.std.proofs.Common.{◌≡◌, ◌∙◌, ◌<◌, length, Err, arith, rules}
use Rattle.h5w_headers.proofs.RanLemmas.{told_ok, told_stop, step_ok, step_err}
use Rattle.h5w_check.proofs.TreeLemmas.{add_present, joined_fits}
use Rattle.h5w_check.proofs.tree.add.Goals as goal

pub returns-in_err-put_chunk-clause-exact : goal.returns-in_err-put_chunk-clause-exact
returns-in_err-put_chunk-clause-exact c =
    let a = c.args in
    let lt : a.i < length a.records.now = omega arith in
    let is : c.from_residual.result ≡ Err c.in_err-put_chunk.field-0.0 = search rules in
    rw is (told_stop _ _ c.in_err-put_chunk.field-0.0 c.in_err-put_chunk.ensures (λ f said.
    add_present a.bounds.now.end a.bounds.now.chunk a.under.totals a.under.span a.total a.span.now a.records.now a.i _ a.ranges.now lt ∙ step_err _ f _ said))

pub returns-clause-exact : goal.returns-clause-exact
returns-clause-exact c =
    let a = c.args in
    let lt : a.i < length a.records.now = omega arith in
    rw (c.join.ensures, c.join-joined.ensures, c.one.ensures, c.agrees-totals.ensures) (told_ok _ _ (
    add_present a.bounds.now.end a.bounds.now.chunk a.under.totals a.under.span a.total a.span.now a.records.now a.i _ a.ranges.now lt ∙ step_ok _ c.put_chunk.new.self _ c.in_ok-put_chunk.ensures.exact))

pub returns-clause-fits : goal.returns-clause-fits
returns-clause-fits c = rw c.join.ensures (joined_fits c.join-joined.result c.one.result)
