use Rattle.std.proofs.Common.{refl}
use Rattle.h5w_lookup.specs.Seeking.{store_rest, next_rest}
use Rattle.h5w_bt.specs.Fields.{bthd_of}
use Rattle.h5w_lookup.specs.Indexes.{in_place_of}
use Rattle.h5w_lookup.specs.Probes.{span_of}
use Rattle.h5w_lookup.specs.Spans.{IsSpan}
use Rattle.h5w_lookup.specs.Stores.{kept}
use Rattle.h5w_lookup.proofs.SpanLemmas.{no_span, span_of_tree}
use Rattle.h5w_lookup.proofs.probe.Probe.behind.Goals as goal

pub returns-in-Nowhere-clause-exact : goal.returns-in-Nowhere-clause-exact
unfolding store_rest next_rest
returns-in-Nowhere-clause-exact c = λ next. rw c.in-Nowhere.is refl

pub returns-in-Array-clause-ahead : goal.returns-in-Array-clause-ahead
returns-in-Array-clause-ahead c = no_span (IsSpan (kept c.array.new.store) (in_place_of c.args.index.now)) (span_of c.array.result) c.array.ensures.alone

pub returns-in-Tree-clause-ahead : goal.returns-in-Tree-clause-ahead
returns-in-Tree-clause-ahead c = rw c.in-Tree.is (span_of_tree (bthd_of c.in-Tree.tree) c.args.key _ (kept c.args.store.now) (kept c.node.new.store) (span_of c.node.result) (c.requires.shallow c.in-Tree.tree c.in-Tree.is) c.node.ensures.ahead)
