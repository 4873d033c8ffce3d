use Rattle.std.proofs.Common.{◌≡◌, ◌∙◌, Some, sym, ap, subst}
use Rattle.h5w_model.specs.Programs.{kept_bytes, used}
use Rattle.h5w_model.specs.Tables.{tree_node}
use Rattle.h5w_lookup.specs.Blocks.{IsRead}
use Rattle.h5w_bt.specs.Lengths.{node_len}
use Rattle.h5w_lookup.specs.Seeking.{store_rest}
use Rattle.h5w_lookup.specs.Probes.{span_of}
use Rattle.h5w_lookup.specs.Stores.{kept}
use Rattle.h5w_lookup.specs.Turning.{turned}
use Rattle.h5w_lookup.proofs.NodeLemmas.{few_records, read_few, node_kept, node_waits, turn_found}
use Rattle.h5w_lookup.proofs.SpanLemmas.{led_here, led_under}
use Rattle.h5w_lookup.proofs.probe.Probe.+node.Goals as goal

pub turn-turn-requires : goal.turn-turn-requires
turn-turn-requires t c =
    let a = c.args in
    let k = c.in-Some.ensures in
    read_few a.depth a.at a.n k.bytes c.in-Some.content.now c.requires.shallow (rw (c.node_kind-kind.ensures, c.node_len-len.ensures.exact) at k.read)

pub returns-in-None-clause-exact : goal.returns-in-None-clause-exact
returns-in-None-clause-exact t c = λ next.
    let a = c.args in
    node_waits (kept a.store.now) (record { depth = a.depth; key = a.key; at = a.at; n = a.n; shallow = c.requires.shallow; few = c.requires.few; small = few_records a.depth a.n c.requires.shallow c.requires.few }) next
    (rw (c.node_kind-kind.ensures, c.node_len-len.ensures.exact) at c.in-None.ensures)

pub returns-in-Found-clause-exact : goal.returns-in-Found-clause-exact
returns-in-Found-clause-exact t c = λ next.
    let a = c.args in
    let k = c.in-Some.ensures in
    let some : kept_bytes (tree_node a.depth) a.at (node_len a.depth a.n) (kept a.store.now) ≡ Some k.bytes = rw (c.node_kind-kind.ensures, c.node_len-len.ensures.exact) at k.is_kept in
    let read : IsRead (tree_node a.depth) a.at (node_len a.depth a.n) k.bytes c.in-Some.content.now = rw (c.node_kind-kind.ensures, c.node_len-len.ensures.exact) at k.read in
    let then_used : kept c.touch.new.self ≡ used 16 (tree_node a.depth) a.at (node_len a.depth a.n) k.bytes (kept a.store.now) = subst (λ m. kept c.touch.new.self ≡ used 16 (tree_node a.depth) a.at m k.bytes (kept a.store.now)) c.node_len-len.ensures.exact (subst (λ m. kept c.touch.new.self ≡ used 16 m a.at c.node_len-len.result k.bytes (kept a.store.now)) c.node_kind-kind.ensures (c.touch.ensures k.bytes k.is_kept)) in
    turn_found (kept c.touch.new.self) next c.in-Found.address
    ∙ ap (λ q. store_rest (kept c.touch.new.self) q next) (ap (turned a.depth a.key) (sym c.in-Found.is) ∙ c.turn-turn.ensures.exact)
    ∙ node_kept (kept a.store.now) (kept c.touch.new.self) a.depth a.at a.n a.key k.bytes c.in-Some.content.now next c.requires.shallow some read then_used

pub returns-in-Under-clause-exact : goal.returns-in-Under-clause-exact
returns-in-Under-clause-exact t c = λ next.
    let a = c.args in
    let k = c.in-Some.ensures in
    let some : kept_bytes (tree_node a.depth) a.at (node_len a.depth a.n) (kept a.store.now) ≡ Some k.bytes = rw (c.node_kind-kind.ensures, c.node_len-len.ensures.exact) at k.is_kept in
    let read : IsRead (tree_node a.depth) a.at (node_len a.depth a.n) k.bytes c.in-Some.content.now = rw (c.node_kind-kind.ensures, c.node_len-len.ensures.exact) at k.read in
    let then_used : kept c.touch.new.self ≡ used 16 (tree_node a.depth) a.at (node_len a.depth a.n) k.bytes (kept a.store.now) = subst (λ m. kept c.touch.new.self ≡ used 16 (tree_node a.depth) a.at m k.bytes (kept a.store.now)) c.node_len-len.ensures.exact (subst (λ m. kept c.touch.new.self ≡ used 16 m a.at c.node_len-len.result k.bytes (kept a.store.now)) c.node_kind-kind.ensures (c.touch.ensures k.bytes k.is_kept)) in
    c.node.ensures.exact next
    ∙ ap (λ q. store_rest (kept c.touch.new.self) q next) (ap (turned a.depth a.key) (sym c.in-Under.is) ∙ c.turn-turn.ensures.exact)
    ∙ node_kept (kept a.store.now) (kept c.touch.new.self) a.depth a.at a.n a.key k.bytes c.in-Some.content.now next c.requires.shallow some read then_used

pub returns-in-Found-clause-ahead : goal.returns-in-Found-clause-ahead
returns-in-Found-clause-ahead t c =
    let a = c.args in
    let k = c.in-Some.ensures in
    let some : kept_bytes (tree_node a.depth) a.at (node_len a.depth a.n) (kept a.store.now) ≡ Some k.bytes = rw (c.node_kind-kind.ensures, c.node_len-len.ensures.exact) at k.is_kept in
    let read : IsRead (tree_node a.depth) a.at (node_len a.depth a.n) k.bytes c.in-Some.content.now = rw (c.node_kind-kind.ensures, c.node_len-len.ensures.exact) at k.read in
    let then_used : kept c.touch.new.self ≡ used 16 (tree_node a.depth) a.at (node_len a.depth a.n) k.bytes (kept a.store.now) = subst (λ m. kept c.touch.new.self ≡ used 16 (tree_node a.depth) a.at m k.bytes (kept a.store.now)) c.node_len-len.ensures.exact (subst (λ m. kept c.touch.new.self ≡ used 16 m a.at c.node_len-len.result k.bytes (kept a.store.now)) c.node_kind-kind.ensures (c.touch.ensures k.bytes k.is_kept)) in
    led_here a.depth a.key a.at a.n a.bound (kept a.store.now) (kept c.touch.new.self) k.bytes c.in-Some.content.now c.of.result c.of.ensures some read then_used

pub returns-in-Under-clause-ahead : goal.returns-in-Under-clause-ahead
returns-in-Under-clause-ahead t c =
    let a = c.args in
    let k = c.in-Some.ensures in
    let u = c.in-Under in
    let some : kept_bytes (tree_node a.depth) a.at (node_len a.depth a.n) (kept a.store.now) ≡ Some k.bytes = rw (c.node_kind-kind.ensures, c.node_len-len.ensures.exact) at k.is_kept in
    let read : IsRead (tree_node a.depth) a.at (node_len a.depth a.n) k.bytes c.in-Some.content.now = rw (c.node_kind-kind.ensures, c.node_len-len.ensures.exact) at k.read in
    let then_used : kept c.touch.new.self ≡ used 16 (tree_node a.depth) a.at (node_len a.depth a.n) k.bytes (kept a.store.now) = subst (λ m. kept c.touch.new.self ≡ used 16 (tree_node a.depth) a.at m k.bytes (kept a.store.now)) c.node_len-len.ensures.exact (subst (λ m. kept c.touch.new.self ≡ used 16 m a.at c.node_len-len.result k.bytes (kept a.store.now)) c.node_kind-kind.ensures (c.touch.ensures k.bytes k.is_kept)) in
    led_under a.depth a.key a.at a.n a.bound u.below (kept a.store.now) (kept c.touch.new.self) (kept c.node.new.store) k.bytes c.in-Some.content.now u.child c.lower-bound.result (span_of c.node.result) u.ensures.few.0 c.requires.shallow some read then_used
    u.ensures.ahead c.lower-bound.ensures c.node.ensures.ahead
