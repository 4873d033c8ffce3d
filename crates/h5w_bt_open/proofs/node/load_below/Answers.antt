use Rattle.std.proofs.Common.{◌≡◌, ◌<◌, ◌≤◌, ◌++◌, ◌∷◌, ◌∙◌, [], List, Err, length, length-append, map, sym, ap, subst, arith, rules, slice_index_or}
use Rattle.std.proofs.lemmas.List.{map-append}
use Rattle.h5w_image.proofs.ViewLemmas.{looked_itself, looked_twice}
use Rattle.h5w_looks.proofs.ReadLemmas.{still_on}
use Rattle.h5w_bt.specs.declared.children.Child.{Child}
use Rattle.h5w_bt.specs.Parts.{child_of, record_of}
use Rattle.h5w_bt_nodes.specs.Nodes.{Tree, found}
use Rattle.h5w_bt_open.specs.Spans.{Leads, high_of, low_of}
use Rattle.h5w_bt_open.specs.Opened.{AreWhole, IsOpened, IsRefused, looked_below, looked_up}
use Rattle.h5w_bt_open.specs.declared.error.OpenTreeError.TheVariants.{OutOfMemory}
use Rattle.h5w_bt_open.proofs.CallLemmas.{loads_within, looks_memory}
use Rattle.h5w_bt_open.proofs.FindLemmas.{opened_gives, or_none}
use Rattle.h5w_bt_open.proofs.HeldLemmas.{none_whole, whole_more}
use Rattle.h5w_bt_open.proofs.StepLemmas.{child_refused, end_opened, low_fits, pointer_at, start_opened, start_refused, step_opened, step_refused}
use Rattle.h5w_bt_open.proofs.node.load_below.Goals as goal

abbrev no_child : Child
no_child = record { address = 0; records = 0; total = 0 }

pub loop-at-init : goal.loop-at-init
loop-at-init g c =
    let d = g.C.Subtree.depth in
    let t = g.C.Subtree.tree in
    record {
      looked = looked_itself (g.I.PieceRead.view c.args.image.now);
      fits = low_fits c.args.span c.low_of-low.result c.low_of-low.ensures c.requires.led;
      whole = subst (λ (l : List _). AreWhole g.C.Subtree.depth (map g.C.Subtree.tree l)) (sym c.new-nodes.ensures.items) (none_whole d);
      count = ap length c.new-nodes.ensures.items;
      opened = λ img still ts h.
          start_opened (IsOpened img d) t c.args.span c.low_of-low.result c.high_of-high.result c.args.records.now (map child_of c.args.children.now) c.new-nodes.result.items ts c.low_of-low.ensures c.high_of-high.ensures c.new-nodes.ensures.items h;
      refused = λ img still at f q.
          start_refused (looked_below img d (map record_of c.args.records.now) (map child_of c.args.children.now)) c.args.span c.low_of-low.result c.high_of-high.result at f c.low_of-low.ensures c.high_of-high.ensures q;
    }

pub load-requires-clause-few : goal.load-requires-clause-few
load-requires-clause-few g c =
    let inside : c.loop-at.at < length c.args.children.now = omega (arith, c.loop-at-test.true) in
    (pointer_at g.C.Subtree.depth c.args.children.now c.loop-at.at no_child inside c.requires.pointers).few

pub returns-in_err-node-clause-loads : goal.returns-in_err-node-clause-loads
returns-in_err-node-clause-loads g c =
    let inside : c.loop-at.at < length c.args.children.now = omega (arith, c.loop-at-test.true) in
    let is : c.from_residual.result ≡ Err c.in_err-node.field-0.0 = search rules in
    rw is (loads_within (λ img at f. IsRefused (looked_up img g.C.Subtree.depth (child_of (slice_index_or c.args.children.now c.loop-at.at no_child))) (Leads c.span_at-here.result) at f)
    (λ img at f. IsRefused (looked_below img g.C.Subtree.depth (map record_of c.args.records.now) (map child_of c.args.children.now)) (Leads c.args.span) at f) c.in_err-node.field-0.0 c.loop-at.invariant.looked
    (λ img still a f h. c.loop-at.invariant.refused img still a f (child_refused img g.C.Subtree.depth c.loop-at.low c.high_of-high.result c.args.records.now c.args.children.now c.loop-at.at no_child c.span_at-here.result a f inside c.span_at-here.ensures h))
    c.in_err-node.ensures.loads)

pub returns-in_err-put_behind-clause-loads : goal.returns-in_err-put_behind-clause-loads
returns-in_err-put_behind-clause-loads g c =
    let is : c.from_residual-in_err-put_behind.result ≡ Err OutOfMemory = search (c.from_residual-in_err-put_behind.ensures, rules) in
    rw is (looks_memory (λ img at f. IsRefused (looked_below img g.C.Subtree.depth (map record_of c.args.records.now) (map child_of c.args.children.now)) (Leads c.args.span) at f) (looked_twice c.loop-at.invariant.looked c.load.ensures.loads.looked))

pub loop-at-preserved : goal.loop-at-preserved
loop-at-preserved g c =
    let d = g.C.Subtree.depth in
    let t = g.C.Subtree.tree in
    let i = c.loop-at.at in
    let rs = c.args.records.now in
    let cs = c.args.children.now in
    let xs = c.loop-at.nodes.items in
    let ys = c.put_behind.new.nodes.items in
    let x = c.in_ok-node.node in
    let e : ys ≡ xs ++ x ∷ [] = c.in_ok-put_behind.ensures in
    let inside : c.loop-at.at < length c.args.children.now = omega (arith, c.loop-at-test.true) in
    record {
      looked = looked_twice c.loop-at.invariant.looked c.load.ensures.loads.looked;
      fits = c.low_behind-low.ensures.fits c.loop-at.invariant.fits;
      whole = subst (λ (l : List (Tree g.C.Subtree.depth)). AreWhole g.C.Subtree.depth l) (sym (ap (map t) e ∙ map-append t xs (x ∷ [])))
          (whole_more d (map t xs) (child_of (slice_index_or cs i no_child)) (t x) c.loop-at.invariant.whole (pointer_at d cs i no_child inside c.requires.pointers) c.in_ok-node.ensures.held);
      count = omega (arith, ap length e, length-append xs (x ∷ []), c.loop-at.invariant.count);
      opened = λ img still ts h.
          step_opened (IsOpened img d) t (low_of c.args.span) (high_of c.args.span) c.loop-at.low c.high_of-high.result rs rs (map child_of cs) cs i no_child c.span_at-here.result c.low_behind-low.result xs ys x ts inside c.span_at-here.ensures
          c.low_behind-low.ensures.exact e (c.in_ok-node.ensures.opened img (still_on img c.loop-at.invariant.looked still)) (c.loop-at.invariant.opened img still) h;
      refused = λ img still at f q.
          c.loop-at.invariant.refused img still at f
          (step_refused img d c.loop-at.low c.high_of-high.result rs cs i no_child c.span_at-here.result c.low_behind-low.result at f inside c.requires.count c.span_at-here.ensures c.low_behind-low.ensures.exact
          (λ k fits led. (or_none (found d k (t x)), opened_gives img d (child_of (slice_index_or cs i no_child)) c.span_at-here.result (t x) k fits (c.in_ok-node.ensures.opened img (still_on img c.loop-at.invariant.looked still)) c.in_ok-node.ensures.held.shape led)) q);
    }

pub returns-clause-opened : goal.returns-clause-opened
returns-clause-opened g c = λ img still.
    let past : length c.args.children.now ≤ c.loop-at.at = omega (arith, c.loop-at-test.false) in
    end_opened (IsOpened img g.C.Subtree.depth) g.C.Subtree.tree (low_of c.args.span) (high_of c.args.span) c.loop-at.low c.high_of-high.result c.args.records.now c.args.records.now (map child_of c.args.children.now) c.args.children.now c.loop-at.at c.loop-at.nodes.items past
    (c.loop-at.invariant.opened img still)
