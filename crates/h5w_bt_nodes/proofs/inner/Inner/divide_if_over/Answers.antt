use Rattle.std.proofs.Common.{◌≡◌, ◌∙◌, ℕ, suc, true, ap, sym, subst, insert, map, List, Option, Some, slice_get}
use Rattle.std.specs.Prelude.{IfSome, slice_set}
use Rattle.h5w_bt.specs.declared.records.Record.{Record}
use Rattle.h5w_bt_nodes.specs.Nodes.{Tree}
use Rattle.h5w_bt_nodes.specs.Puts.{changed_node, is_over, left_of, middle_of, right_of, settled}
use Rattle.h5w_bt_nodes.proofs.Children.{child-is, child-there}
use Rattle.h5w_bt_nodes.proofs.Down.{no_spare}
use Rattle.h5w_bt_nodes.proofs.Steps.{settled_not, settled_over}
use Rattle.h5w_bt_nodes.proofs.inner.Inner.divide_if_over.Goals as goal

-- the node whose child was divided
divided : (d i : ℕ) (t : Tree (suc d)) (c : Tree d) (rs : List Record) (ms : List (Tree d)) (place : ℕ) → slice_get t.children i ≡ Some c → is_over d c ≡ true → rs ≡ insert t.records i (middle_of d c)
    → ms ≡ insert (slice_set t.children i (left_of d c)) (suc i) (right_of d c) → place ≡ t.place → changed_node d rs ms place ≡ settled d i t
divided d i t c rs ms place e o v m p = (λ k. changed_node d (v k) (m k) (p k)) ∙ sym (settled_over d i t c e o)

pub returns-then-not-is_over : goal.returns-then-not-is_over
returns-then-not-is_over g c =
    let d = g.C.Subtree.depth in
    let t = g.C.Subtree.tree in
    let cs = c.args.self.now.children.items in
    let there = child-there t cs c.args.at c.index.result.now c.requires.inside c.index.ensures in
    sym (settled_not d c.args.at (changed_node d c.args.self.now.records.items (map t cs) c.args.self.now.place) (t c.index.result.now) there (sym c.is_over.ensures ∙ c.if-not-is_over.true))

pub divide_child-requires-clause-over : goal.divide_child-requires-clause-over
divide_child-requires-clause-over g c = λ b e.
    let l = child-is g.C.Subtree.tree c.args.self.now.children.items c.args.at c.index.result.now b c.requires.inside c.index.ensures e in
    sym (ap (is_over g.C.Subtree.depth) l) ∙ (sym c.is_over.ensures ∙ c.if-not-is_over.false)

pub divide_child-requires-clause-roomy : goal.divide_child-requires-clause-roomy
divide_child-requires-clause-roomy g c = subst (λ (o : Option _). IfSome o g.C.Subtree.roomy) c.in-Some.is c.requires.roomy

pub returns-in-Some : goal.returns-in-Some
returns-in-Some g c =
    let d = g.C.Subtree.depth in
    let t = g.C.Subtree.tree in
    let cs = c.args.self.now.children.items in
    let x = t c.index.result.now in
    let there = child-there t cs c.args.at c.index.result.now c.requires.inside c.index.ensures in
    let made = c.divide_child.ensures in
    divided d c.args.at (changed_node d c.args.self.now.records.items (map t cs) c.args.self.now.place) x c.divide_child.new.self.records.items (map t c.divide_child.new.self.children.items) c.divide_child.new.self.place
    there (sym c.is_over.ensures ∙ c.if-not-is_over.false) (made.records x there) (made.children x there) made.place

pub returns-in-None : goal.returns-in-None
returns-in-None g c =
    let there = child-there g.C.Subtree.tree c.args.self.now.children.items c.args.at c.index.result.now c.requires.inside c.index.ensures in
    absurd (no_spare c.args.spare c.in-None.is (c.requires.spare (g.C.Subtree.tree c.index.result.now) there (sym c.is_over.ensures ∙ c.if-not-is_over.false)))
