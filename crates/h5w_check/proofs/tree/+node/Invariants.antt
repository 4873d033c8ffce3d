use Rattle.std.proofs.Common.{◌+◌, ◌*◌, ◌^◌, ◌<◌, [], drop, true}
use Rattle.h5w_model.specs.Programs.{eval}
use Rattle.h5w_model.specs.Findings.{children_under, node_visit}
use Rattle.h5w_check.specs.Spans.{span_of}
use Rattle.h5w_check.specs.Nodes.{all_faded, children_after}
use Rattle.h5w_check.proofs.KnownLemmas.{Coming}
use Rattle.h5w_check.proofs.tree.+node.Given as goal

abbrev pub decreases-look : goal.decreases-look
decreases-look g l = 3 * l.depth

abbrev pub decreases-node : goal.decreases-node
decreases-node g l = 3 * l.depth + 1

abbrev pub decreases-children : goal.decreases-children
decreases-children g l = 3 * l.depth + 2

abbrev pub invariant-children-loop-i : goal.invariant-children-loop-i
invariant-children-loop-i g l = record {
  coming : Coming l.bounds.end l.bounds.chunk l.initial.nodes l.nodes (g.I.PieceRead.view l.initial.image) (g.I.PieceRead.view l.image)
      (λ img. all_faded l.fallen (children_after true l.initial.ranges (span_of []) (eval img (children_under l.bounds.end l.bounds.chunk (λ c. node_visit l.bounds.end l.bounds.chunk l.depth c.address c.records) l.t.records l.t.children))))
      (λ img. all_faded l.fallen (children_after l.under.totals l.ranges l.under.span (eval img (children_under l.bounds.end l.bounds.chunk (λ c. node_visit l.bounds.end l.bounds.chunk l.depth c.address c.records) (drop l.i l.t.records) (drop l.i l.t.children)))));
  fits : l.under.span.count < 2 ^ 128;
}
