use Rattle.std.proofs.Common.{◌≡◌, refl, ◌+◌, ◌∙◌, ℕ, suc, true, Err, List, Option, IfSome, map, sym, ap, subst, add-one, rules}
use Rattle.h5w_looks.proofs.ReadLemmas.{still_on}
use Rattle.h5w_looks.specs.Still.{IsStill}
use Rattle.h5w_model.specs.Trees.{btin_at}
use Rattle.h5w_bt.specs.declared.inner.Btin.{Btin}
use Rattle.h5w_bt.specs.Fields.{btin_of}
use Rattle.h5w_bt.specs.Parts.{child_of, record_of}
use Rattle.h5w_bt_nodes.specs.Typed.{inner_of}
use Rattle.h5w_bt_open.specs.Calls.{IfDamaged, IsJudged}
use Rattle.h5w_bt_open.specs.Spans.{Leads, high_of, low_of}
use Rattle.h5w_bt_open.specs.Opened.{EachOpened, IsHeld, IsOpened, IsRead, IsRefused, looked_below, looked_up}
use Rattle.h5w_bt_open.proofs.CallLemmas.{loads_quiet, loads_through}
use Rattle.h5w_bt_open.proofs.FindLemmas.{node_lookup}
use Rattle.h5w_bt_open.proofs.HeldLemmas.{passed_held}
use Rattle.h5w_bt_open.proofs.NodeLemmas.{if_ok_four, inner_opened, node_reads, passed_opened}
use Rattle.h5w_bt_open.proofs.RefusedLemmas.{node_first, refused_as_well}
use Rattle.h5w_bt_open.proofs.node.InnerLoad.load.Goals as goal

pub returns-in_err-node-clause-loads : goal.returns-in_err-node-clause-loads
returns-in_err-node-clause-loads g c =
    let deep : c.depth-depth.result + 1 ≡ suc g.C.Subtree.depth = ap (λ (n : ℕ). n + 1) c.depth-depth.ensures ∙ add-one g.C.Subtree.depth in
    let is : c.from_residual-in_err-node.result ≡ Err c.in_err-node.field-0.0 = search rules in
    rw is (loads_quiet (λ img at f. IsRefused (looked_up img (suc g.C.Subtree.depth) (child_of c.args.child)) (Leads c.args.span) at f)
    (λ a f. (a ≡ c.args.child.address) × ((btin_at c.in_ok-bytes.bytes.items c.args.child.address c.args.child.records (c.depth-depth.result + 1) ≡ Err f) × (c.is_some.result ≡ true))) c.in_err-node.field-0.0 c.bytes_at.ensures.looked c.in_err-node.ensures.quiet
    (λ img still a f h. node_first img g.C.Subtree.depth (child_of c.args.child) c.args.span c.in_ok-bytes.bytes.items c.node_len-len.result a (c.depth-depth.result + 1) c.is_some.result f (c.in_ok-bytes.ensures.exact img still) deep (c.node_len-len.ensures.inner c.depth-depth.result refl) c.requires.led c.is_some.ensures h)
    (subst (λ (b : List ℕ). IfDamaged c.in_err-node.field-0.0 (λ a f. (a ≡ c.args.child.address) × ((btin_at b c.args.child.address c.args.child.records (c.depth-depth.result + 1) ≡ Err f) × (c.is_some.result ≡ true)))) c.deref.ensures.value c.in_err-node.ensures.damaged))

pub load_node-requires-clause-read : goal.load_node-requires-clause-read
load_node-requires-clause-read g c =
    let deep : c.depth-depth.result + 1 ≡ suc g.C.Subtree.depth = ap (λ (n : ℕ). n + 1) c.depth-depth.ensures ∙ add-one g.C.Subtree.depth in
    subst (λ (o : Option Btin). IfSome o (λ n. (k : ℕ) → c.depth-depth.result + 1 ≡ suc k → IsRead k c.args.child.records (btin_of n))) c.in-Some.is c.in_ok-node.ensures.read g.C.Subtree.depth deep

pub returns-in-Some-clause-loads : goal.returns-in-Some-clause-loads
returns-in-Some-clause-loads g c =
    let d = g.C.Subtree.depth in
    let deep : c.depth-depth.result + 1 ≡ suc g.C.Subtree.depth = ap (λ (n : ℕ). n + 1) c.depth-depth.ensures ∙ add-one g.C.Subtree.depth in
    let j = subst (λ (o : Option Btin). IsJudged btin_of (btin_at c.deref.result.now c.args.child.address c.args.child.records (c.depth-depth.result + 1)) c.is_some.result o) c.in-Some.is c.in_ok-node.ensures.judged in
    loads_through (λ img at f. IsRefused (looked_below img g.C.Subtree.depth c.in-Some.node.records c.in-Some.node.children) (Leads c.args.span) at f)
    (λ img at f. IsRefused (looked_up img (suc g.C.Subtree.depth) (child_of c.args.child)) (Leads c.args.span) at f) c.load_node.result c.bytes_at.ensures.looked
    (λ img still a f h.
    let r = node_reads img d (child_of c.args.child) c.in_ok-bytes.bytes.items c.deref.result.now c.node_len-len.result (c.depth-depth.result + 1) _ (c.in_ok-bytes.ensures.exact img still) c.deref.ensures.value deep (c.node_len-len.ensures.inner c.depth-depth.result refl) j in
    refused_as_well (looked_below img d c.in-Some.node.records c.in-Some.node.children) (looked_up img (suc d) (child_of c.args.child)) (Leads c.args.span) (Leads c.args.span) a f (λ k. node_lookup img d (child_of c.args.child) (btin_of c.in-Some.node) k r) (λ k l. l) (λ k l. l) h)
    c.load_node.ensures.loads

pub returns-in-Some-clause-opened : goal.returns-in-Some-clause-opened
returns-in-Some-clause-opened g c =
    let d = g.C.Subtree.depth in
    let deep : c.depth-depth.result + 1 ≡ suc g.C.Subtree.depth = ap (λ (n : ℕ). n + 1) c.depth-depth.ensures ∙ add-one g.C.Subtree.depth in
    let j = subst (λ (o : Option Btin). IsJudged btin_of (btin_at c.deref.result.now c.args.child.address c.args.child.records (c.depth-depth.result + 1)) c.is_some.result o) c.in-Some.is c.in_ok-node.ensures.judged in
    if_ok_four c.load_node.result (λ t. IsHeld (suc g.C.Subtree.depth) (child_of c.args.child) (inner_of g.C.Subtree.depth g.C.Subtree.tree t)) (λ t. map record_of t.records.items ≡ c.in-Some.node.records) (λ t. t.place ≡ c.args.child.address)
    (λ t. (img : List ℕ) → IsStill (g.I.PieceRead.view c.bytes_at.new.image) img → EachOpened (IsOpened img g.C.Subtree.depth) (low_of c.args.span) (high_of c.args.span) t.records.items c.in-Some.node.children (map g.C.Subtree.tree t.children.items))
    (λ t. (img : List ℕ) → IsStill (g.I.PieceRead.view c.args.image.now) img → IsOpened img (suc g.C.Subtree.depth) (child_of c.args.child) c.args.span (inner_of g.C.Subtree.depth g.C.Subtree.tree t))
    (λ t h records place below img still.
    let r = node_reads img d (child_of c.args.child) c.in_ok-bytes.bytes.items c.deref.result.now c.node_len-len.result (c.depth-depth.result + 1) _ (c.in_ok-bytes.ensures.exact img still) c.deref.ensures.value deep (c.node_len-len.ensures.inner c.depth-depth.result refl) j in
    inner_opened img d (child_of c.args.child) c.args.span (btin_of c.in-Some.node) (inner_of d g.C.Subtree.tree t) r h records place (below img (still_on img c.bytes_at.ensures.looked still)))
    c.load_node.ensures.held c.load_node.ensures.records c.load_node.ensures.place c.load_node.ensures.opened

pub returns-clause-held : goal.returns-clause-held
returns-clause-held g c =
    subst (IsHeld (suc g.C.Subtree.depth) (child_of c.args.child)) (sym c.in_ok-passed-in-None.ensures) (passed_held (suc g.C.Subtree.depth) (child_of c.args.child) c.requires.shallow)

pub returns-clause-opened : goal.returns-clause-opened
returns-clause-opened g c = λ img still.
    let d = g.C.Subtree.depth in
    let deep : c.depth-depth.result + 1 ≡ suc g.C.Subtree.depth = ap (λ (n : ℕ). n + 1) c.depth-depth.ensures ∙ add-one g.C.Subtree.depth in
    let j = subst (λ (o : Option Btin). IsJudged btin_of (btin_at c.deref.result.now c.args.child.address c.args.child.records (c.depth-depth.result + 1)) c.is_some.result o) c.in-None.is c.in_ok-node.ensures.judged in
    let r = node_reads img d (child_of c.args.child) c.in_ok-bytes.bytes.items c.deref.result.now c.node_len-len.result (c.depth-depth.result + 1) _ (c.in_ok-bytes.ensures.exact img still) c.deref.ensures.value deep (c.node_len-len.ensures.inner c.depth-depth.result refl) j.0.1 in
    passed_opened img d (child_of c.args.child) c.args.span c.is_some.result j.0.0 (inner_of d g.C.Subtree.tree c.in_ok-passed-in-None.field-0) r c.is_some.ensures j.1 c.in_ok-passed-in-None.ensures
