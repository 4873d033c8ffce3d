use Rattle.std.proofs.Common.{◌≡◌, ℕ, ◌++◌, List, drop, length, map}
use Rattle.std.specs.Prelude.{IfSome}
use Rattle.h5w_model.specs.declared.refusal.BlockFault.{BlockFault}
use Rattle.h5w_image.specs.View.{Looked}
use Rattle.h5w_looks.specs.Still.{IsStill}
use Rattle.h5w_bt.specs.Parts.{child_of, record_of}
use Rattle.h5w_bt_nodes.specs.Nodes.{Tree}
use Rattle.h5w_bt_open.specs.Spans.{IsKey, Leads, high_of, low_of}
use Rattle.h5w_bt_open.specs.Opened.{AreWhole, EachOpened, IsOpened, IsRefused, looked_below}
use Rattle.h5w_bt_open.proofs.SpanLemmas.{IsBetween}
use Rattle.h5w_bt_open.proofs.node.load_below.Given as goal

abbrev pub invariant-loop-at : goal.invariant-loop-at
invariant-loop-at g l = record {
  looked : Looked (g.I.PieceRead.view l.initial.image) (g.I.PieceRead.view l.image);
  fits : IfSome l.low IsKey;
  whole : AreWhole g.C.Subtree.depth (map g.C.Subtree.tree l.nodes.items);
  count : length l.nodes.items ≡ l.at;
  opened : (img : List ℕ) → IsStill (g.I.PieceRead.view l.initial.image) img → (ts : List (Tree g.C.Subtree.depth)) → EachOpened (IsOpened img g.C.Subtree.depth) l.low l.high (drop l.at l.records) (map child_of (drop l.at l.children)) ts
      → EachOpened (IsOpened img g.C.Subtree.depth) (low_of l.fn.span) (high_of l.fn.span) l.records (map child_of l.children) (map g.C.Subtree.tree l.nodes.items ++ ts);
  refused : (img : List ℕ) → IsStill (g.I.PieceRead.view l.initial.image) img → (at : ℕ) (f : BlockFault) → IsRefused (looked_below img g.C.Subtree.depth (map record_of (drop l.at l.records)) (map child_of (drop l.at l.children))) (IsBetween l.low l.high) at f
      → IsRefused (looked_below img g.C.Subtree.depth (map record_of l.records) (map child_of l.children)) (Leads l.fn.span) at f;
}
