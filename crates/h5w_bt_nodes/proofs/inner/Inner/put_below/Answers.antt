use Rattle.std.proofs.Common.{◌<◌, refl, sym, ap, ◌∙◌, map, length, set, arith, List, slice_get, length-set}
use Rattle.std.proofs.lemmas.List.{length-map}
use Rattle.h5w_bt_nodes.specs.Puts.{changed_node}
use Rattle.h5w_bt_nodes.specs.Typed.{inner_of}
use Rattle.h5w_bt_nodes.proofs.Steps.{rank-inside}
use Rattle.h5w_bt_nodes.proofs.Shapes.{shape_at}
use Rattle.h5w_bt_nodes.proofs.Children.{child-there, same-child}
use Rattle.h5w_bt_nodes.proofs.Down.{down-children, down-shape, down-full, down-put, down-fits, same-node}
use Rattle.h5w_bt_nodes.proofs.inner.Inner.put_below.Goals as goal

pub spare-requires-clause-inside : goal.spare-requires-clause-inside
spare-requires-clause-inside g c =
    omega (arith, c.requires.place, rank-inside c.args.item.key c.args.self.now.records.items, c.requires.shape.children, length-map c.args.self.now.children.items g.C.Subtree.tree)

pub index_mut-requires : goal.index_mut-requires
index_mut-requires g c =
    omega (arith, c.requires.place, rank-inside c.args.item.key c.args.self.now.records.items, c.requires.shape.children, length-map c.args.self.now.children.items g.C.Subtree.tree, c.reserve-2.ensures.len)

pub put-requires-clause-shape : goal.put-requires-clause-shape
put-requires-clause-shape g c =
    let t = g.C.Subtree.tree in
    let ds = c.reserve-2.new.self.items in
    let e = c.reserve-2.ensures.items in
    let h : c.args.at < length ds = omega (arith, c.requires.place, rank-inside c.args.item.key c.args.self.now.records.items, c.requires.shape.children, length-map c.args.self.now.children.items t, ap length e) in
    shape_at g.C.Subtree.depth (map t c.args.self.now.children.items) c.args.at (t c.index_mut.result.now) c.requires.shape.each
    (ap (λ (l : List _). slice_get (map t l) c.args.at) (sym e) ∙ child-there t ds c.args.at c.index_mut.result.now h c.index_mut.ensures.value)

pub divide_if_over-requires-clause-inside : goal.divide_if_over-requires-clause-inside
divide_if_over-requires-clause-inside g c =
    omega (
      arith,
      c.requires.place,
      rank-inside c.args.item.key c.args.self.now.records.items,
      c.requires.shape.children,
      length-map c.args.self.now.children.items g.C.Subtree.tree,
      ap length c.reserve-2.ensures.items,
      length-set c.reserve-2.new.self.items c.args.at c.put.new.self,
    )

pub divide_if_over-requires-clause-place : goal.divide_if_over-requires-clause-place
divide_if_over-requires-clause-place g c = omega (arith, c.requires.place, rank-inside c.args.item.key c.args.self.now.records.items, ap length c.reserve.ensures.items)

pub divide_if_over-requires-clause-shape : goal.divide_if_over-requires-clause-shape
divide_if_over-requires-clause-shape g c = λ b e.
    let d = g.C.Subtree.depth in
    let t = g.C.Subtree.tree in
    let u = inner_of d t c.args.self.now in
    let ds = c.reserve-2.new.self.items in
    let h : c.args.at < length ds = omega (arith, c.requires.place, rank-inside c.args.item.key c.args.self.now.records.items, c.requires.shape.children, length-map c.args.self.now.children.items t, ap length c.reserve-2.ensures.items) in
    let m = down-children d t c.args.self.now.children.items ds c.args.at c.index_mut.result.now c.put.new.self c.args.item u refl c.reserve-2.ensures.items c.requires.place h c.index_mut.ensures.value c.in-Ok.ensures.ok in
    down-shape d c.args.item u c.args.at (map t (set ds c.args.at c.put.new.self)) c.requires.shallow c.requires.shape m c.requires.place b e

pub divide_if_over-requires-clause-spare : goal.divide_if_over-requires-clause-spare
divide_if_over-requires-clause-spare g c = λ b e o.
    let d = g.C.Subtree.depth in
    let t = g.C.Subtree.tree in
    let u = inner_of d t c.args.self.now in
    let ds = c.reserve-2.new.self.items in
    let h : c.args.at < length ds = omega (arith, c.requires.place, rank-inside c.args.item.key c.args.self.now.records.items, c.requires.shape.children, length-map c.args.self.now.children.items t, ap length c.reserve-2.ensures.items) in
    let m = down-children d t c.args.self.now.children.items ds c.args.at c.index_mut.result.now c.put.new.self c.args.item u refl c.reserve-2.ensures.items c.requires.place h c.index_mut.ensures.value c.in-Ok.ensures.ok in
    let w = down-full d c.args.item u c.args.at (map t (set ds c.args.at c.put.new.self)) c.requires.shape m c.requires.place b e o in
    c.in_ok-spare.ensures.full w.child w.there w.full

pub recount-requires : goal.recount-requires
recount-requires g c =
    let d = g.C.Subtree.depth in
    let t = g.C.Subtree.tree in
    let u = inner_of d t c.args.self.now in
    let ds = c.reserve-2.new.self.items in
    let h : c.args.at < length ds = omega (arith, c.requires.place, rank-inside c.args.item.key c.args.self.now.records.items, c.requires.shape.children, length-map c.args.self.now.children.items t, ap length c.reserve-2.ensures.items) in
    let m = down-children d t c.args.self.now.children.items ds c.args.at c.index_mut.result.now c.put.new.self c.args.item u refl c.reserve-2.ensures.items c.requires.place h c.index_mut.ensures.value c.in-Ok.ensures.ok in
    let e = c.divide_if_over.ensures ∙ down-put d c.args.item u c.args.at c.reserve.new.self.items (map t (set ds c.args.at c.put.new.self)) c.reserve.ensures.items m c.requires.place c.requires.new in
    down-fits d c.args.item u (changed_node d c.divide_if_over.new.self.records.items (map t c.divide_if_over.new.self.children.items) c.divide_if_over.new.self.place) e c.requires.shallow c.requires.shape c.requires.new

pub returns-clause-ok : goal.returns-clause-ok
returns-clause-ok g c =
    let d = g.C.Subtree.depth in
    let t = g.C.Subtree.tree in
    let u = inner_of d t c.args.self.now in
    let ds = c.reserve-2.new.self.items in
    let h : c.args.at < length ds = omega (arith, c.requires.place, rank-inside c.args.item.key c.args.self.now.records.items, c.requires.shape.children, length-map c.args.self.now.children.items t, ap length c.reserve-2.ensures.items) in
    let m = down-children d t c.args.self.now.children.items ds c.args.at c.index_mut.result.now c.put.new.self c.args.item u refl c.reserve-2.ensures.items c.requires.place h c.index_mut.ensures.value c.in-Ok.ensures.ok in
    c.recount.ensures
    ∙ (c.divide_if_over.ensures ∙ down-put d c.args.item u c.args.at c.reserve.new.self.items (map t (set ds c.args.at c.put.new.self)) c.reserve.ensures.items m c.requires.place c.requires.new)

pub returns-in-Err-clause-err : goal.returns-in-Err-clause-err
returns-in-Err-clause-err g c =
    let t = g.C.Subtree.tree in
    same-node g.C.Subtree.depth (inner_of g.C.Subtree.depth t c.args.self.now) c.reserve.new.self.items (map t (set c.reserve-2.new.self.items c.args.at c.put.new.self)) c.reserve.ensures.items
    (same-child t c.reserve-2.new.self.items c.args.at c.index_mut.result.now c.put.new.self c.index_mut.ensures.value c.in-Err.ensures.err ∙ ap (map t) c.reserve-2.ensures.items)
