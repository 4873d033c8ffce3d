use Rattle.std.proofs.Common.{[], true}
use Rattle.h5w_check.specs.Spans.{span_of}
use Rattle.h5w_check.specs.Nodes.{Spanned, ended, records_after}
use Rattle.h5w_headers.proofs.RanLemmas.{told_along, told_then}
use Rattle.h5w_check.proofs.TreeLemmas.{leaf_ok}
use Rattle.h5w_check.proofs.tree.leaf.Goals as goal

pub returns-in_ok-span-in-Ok : goal.returns-in_ok-span-in-Ok
returns-in_ok-span-in-Ok c =
    let a = c.args in
    let put = rw c.as_slice.ensures at c.in_ok-span-in-Ok.ensures in
    let x : Spanned = (c.put_records.new.ranges, c.in_ok-span-in-Ok.span) in
    told_along _ _ _ (told_then (records_after a.bounds.now.end a.bounds.now.chunk a.ranges.now (span_of []) c.in-Ok.t.records) x (λ y. ended a.at true y.0 y.1) _ put (c.end.ensures c.put_records.new.ranges))
    (leaf_ok a.bounds.now.end a.bounds.now.chunk a.at a.n a.b.now a.ranges.now c.in-Ok.t.records c.in-Ok.ensures.exact)
