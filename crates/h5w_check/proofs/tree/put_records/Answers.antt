use Rattle.std.proofs.Common.{◌≡◌, ◌∙◌, ◌<◌, length, Err, arith, rules}
use Rattle.h5w_headers.proofs.RanLemmas.{told_stop, step_ok, step_err}
use Rattle.h5w_check.proofs.TreeLemmas.{held_next, joined_fits}
use Rattle.h5w_check.proofs.tree.put_records.Goals as goal

pub returns-in_err-put_chunk : goal.returns-in_err-put_chunk
returns-in_err-put_chunk c =
    let a = c.args in
    let l = c.loop-r in
    let lt : l.r-index < length a.records.now = omega arith in
    let is : c.from_residual.result ≡ Err c.in_err-put_chunk.field-0.0 = search rules in
    rw is (told_stop _ _ c.in_err-put_chunk.field-0.0 c.in_err-put_chunk.ensures (λ f said.
    l.invariant.same ∙ held_next a.bounds.now.end a.bounds.now.chunk l.r-index _ a.records.now l.ranges l.span lt ∙ step_err _ f _ said))

pub loop-r-preserved : goal.loop-r-preserved
loop-r-preserved c =
    let a = c.args in
    let l = c.loop-r in
    let lt : l.r-index < length a.records.now = omega arith in
    record {
      same = rw (c.join-span.ensures, c.one.ensures) (l.invariant.same ∙ held_next a.bounds.now.end a.bounds.now.chunk l.r-index _ a.records.now l.ranges l.span lt ∙ step_ok _ c.put_chunk.new.self _ c.in_ok-put_chunk.ensures.exact);
      fits = rw c.join-span.ensures (joined_fits l.span c.one.result);
    }
