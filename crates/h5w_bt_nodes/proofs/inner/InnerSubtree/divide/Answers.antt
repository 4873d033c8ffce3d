use Rattle.std.proofs.Common.{◌≡◌, ◌+◌, ◌<◌, ◌^◌, ℕ, List, length, sum_by, refl, sym, ap, ap₂, ◌∙◌, map, add-one, suc}
use Rattle.h5w_model.specs.Numbers.{undefined}
use Rattle.h5w_model.specs.Trees.{capacity_of}
use Rattle.h5w_bt_nodes.specs.Typed.{inner_of}
use Rattle.h5w_bt_nodes.specs.Puts.{changed_node, counted, left_of, right_of}
use Rattle.h5w_bt_nodes.specs.Nodes.{total_of}
use Rattle.h5w_bt_nodes.proofs.Parts.{over-half}
use Rattle.h5w_bt_nodes.proofs.Shapes.{left_shape, right_shape}
use Rattle.h5w_bt_nodes.proofs.Down.{divide-left, divide-right, counted-node, part-fits, sums_small}
use Rattle.h5w_bt_nodes.proofs.inner.InnerSubtree.divide.Goals as goal

pub recount-requires : goal.recount-requires
recount-requires g c =
    let d = g.C.Subtree.depth in
    let t = g.C.Subtree.tree in
    let u = inner_of d t c.args.self.now in
    let e = c.capacity.ensures.exact ∙ ap capacity_of (ap (λ (n : ℕ). n + 1) c.depth.ensures ∙ add-one d) in
    let h = over-half (suc d) u c.requires.over in
    let l = divide-left d t u c.args.self.now.children.items c.move_tail.new.from.items c.take_last-middle.new.self.items c.capacity.result c.take_last-middle.result refl e h
    (sym c.move_tail-2.ensures.stay ∙ c.take_last-middle.ensures.items) c.move_tail.ensures.stay in
    part-fits (suc d) (left_of (suc d) u) (changed_node d c.take_last-middle.new.self.items (map t c.move_tail.new.from.items) c.args.self.now.place) l c.requires.shallow
    (left_shape (suc d) (suc (capacity_of (suc d))) u c.requires.shallow h c.requires.shape)

pub count-total-requires : goal.count-total-requires
count-total-requires g c =
    let d = g.C.Subtree.depth in
    let t = g.C.Subtree.tree in
    let u = inner_of d t c.args.self.now in
    let e = c.capacity.ensures.exact ∙ ap capacity_of (ap (λ (n : ℕ). n + 1) c.depth.ensures ∙ add-one d) in
    let h = over-half (suc d) u c.requires.over in
    let r = divide-right d t u c.args.self.now.children.items c.move_tail.new.to.items c.move_tail-2.new.to.items c.capacity.result refl e c.move_tail-2.ensures.moved c.move_tail.ensures.moved in
    let q : sum_by (total_of d) (map t c.deref.result.now) ≡ sum_by (total_of d) (map t c.move_tail.new.to.items) = ap (λ (l : List _). sum_by (total_of d) (map t l)) c.deref.ensures.value in
    let n : c.len.result ≡ length c.move_tail-2.new.to.items = c.len.ensures ∙ c.move_tail-2.new.to.ok.0 in
    let f : length c.move_tail-2.new.to.items + sum_by (total_of d) (map t c.move_tail.new.to.items) < 2 ^ 64 = part-fits (suc d) (right_of (suc d) u) (changed_node d c.move_tail-2.new.to.items (map t c.move_tail.new.to.items) undefined) r c.requires.shallow (right_shape (suc d) u c.requires.shallow h c.requires.shape) in
    sums_small c.len.result (length c.move_tail-2.new.to.items) (sum_by (total_of d) (map t c.deref.result.now)) (sum_by (total_of d) (map t c.move_tail.new.to.items)) n q f

pub returns-clause-left : goal.returns-clause-left
returns-clause-left g c =
    let d = g.C.Subtree.depth in
    let t = g.C.Subtree.tree in
    let u = inner_of d t c.args.self.now in
    let e = c.capacity.ensures.exact ∙ ap capacity_of (ap (λ (n : ℕ). n + 1) c.depth.ensures ∙ add-one d) in
    let h = over-half (suc d) u c.requires.over in
    let l = divide-left d t u c.args.self.now.children.items c.move_tail.new.from.items c.take_last-middle.new.self.items c.capacity.result c.take_last-middle.result refl e h
    (sym c.move_tail-2.ensures.stay ∙ c.take_last-middle.ensures.items) c.move_tail.ensures.stay in
    c.recount.ensures ∙ l

pub returns-clause-right : goal.returns-clause-right
returns-clause-right g c =
    let d = g.C.Subtree.depth in
    let t = g.C.Subtree.tree in
    let u = inner_of d t c.args.self.now in
    let e = c.capacity.ensures.exact ∙ ap capacity_of (ap (λ (n : ℕ). n + 1) c.depth.ensures ∙ add-one d) in
    let h = over-half (suc d) u c.requires.over in
    let r = divide-right d t u c.args.self.now.children.items c.move_tail.new.to.items c.move_tail-2.new.to.items c.capacity.result refl e c.move_tail-2.ensures.moved c.move_tail.ensures.moved in
    let q : sum_by (total_of d) (map t c.deref.result.now) ≡ sum_by (total_of d) (map t c.move_tail.new.to.items) = ap (λ (l : List _). sum_by (total_of d) (map t l)) c.deref.ensures.value in
    let m : c.len.result ≡ length c.move_tail-2.new.to.items = c.len.ensures ∙ c.move_tail-2.new.to.ok.0 in
    let n : c.count-total.result ≡ counted d c.move_tail-2.new.to.items (map t c.move_tail.new.to.items) = c.count-total.ensures ∙ ap₂ (λ (a b : ℕ). a + b) m q in
    counted-node d c.move_tail-2.new.to.items (map t c.move_tail.new.to.items) undefined c.count-total.result n ∙ r
