use Rattle.std.proofs.Common.{◌<◌, refl, ◌∙◌, map, length, set, arith}
use Rattle.std.proofs.lemmas.List.{length-map}
use Rattle.h5w_bt_nodes.specs.Puts.{changed_node}
use Rattle.h5w_bt_nodes.specs.Typed.{inner_of}
use Rattle.h5w_bt_nodes.proofs.Steps.{rank-inside}
use Rattle.h5w_bt_nodes.proofs.Shapes.{shape_at}
use Rattle.h5w_bt_nodes.proofs.Children.{child-there}
use Rattle.h5w_bt_nodes.proofs.Down.{down-children, down-fits, down-same, down-there}
use Rattle.h5w_bt_nodes.proofs.inner.Inner.replace_below.Goals as goal

pub index_mut-requires : goal.index_mut-requires
index_mut-requires g c =
    omega (arith, c.requires.place, rank-inside c.args.item.key c.args.self.now.records.items, c.requires.shape.children, length-map c.args.self.now.children.items g.C.Subtree.tree)

pub replace-requires-clause-shape : goal.replace-requires-clause-shape
replace-requires-clause-shape g c =
    let t = g.C.Subtree.tree in
    let cs = c.args.self.now.children.items in
    let h : c.args.at < length cs = omega (arith, c.requires.place, rank-inside c.args.item.key c.args.self.now.records.items, c.requires.shape.children, length-map cs t) in
    shape_at g.C.Subtree.depth (map t cs) c.args.at (t c.index_mut.result.now) c.requires.shape.each (child-there t cs c.args.at c.index_mut.result.now h c.index_mut.ensures.value)

pub replace-requires-clause-there : goal.replace-requires-clause-there
replace-requires-clause-there g c =
    let t = g.C.Subtree.tree in
    let cs = c.args.self.now.children.items in
    let h : c.args.at < length cs = omega (arith, c.requires.place, rank-inside c.args.item.key c.args.self.now.records.items, c.requires.shape.children, length-map cs t) in
    down-there g.C.Subtree.depth c.args.item (inner_of g.C.Subtree.depth t c.args.self.now) c.args.at (t c.index_mut.result.now) (child-there t cs c.args.at c.index_mut.result.now h c.index_mut.ensures.value)
    c.requires.place c.requires.new c.requires.there

pub recount-requires : goal.recount-requires
recount-requires g c =
    let d = g.C.Subtree.depth in
    let t = g.C.Subtree.tree in
    let u = inner_of d t c.args.self.now in
    let cs = c.args.self.now.children.items in
    let h : c.args.at < length cs = omega (arith, c.requires.place, rank-inside c.args.item.key c.args.self.now.records.items, c.requires.shape.children, length-map cs t) in
    let m = down-children d t cs cs c.args.at c.index_mut.result.now c.replace.new.self c.args.item u refl refl c.requires.place h c.index_mut.ensures.value c.replace.ensures in
    let e = down-same d c.args.item u (map t (set cs c.args.at c.replace.new.self)) c.requires.shape m c.requires.new c.requires.there in
    down-fits d c.args.item u (changed_node d u.records (map t (set cs c.args.at c.replace.new.self)) u.place) e c.requires.shallow c.requires.shape c.requires.new

pub returns : goal.returns
returns g c =
    let d = g.C.Subtree.depth in
    let t = g.C.Subtree.tree in
    let u = inner_of d t c.args.self.now in
    let cs = c.args.self.now.children.items in
    let h : c.args.at < length cs = omega (arith, c.requires.place, rank-inside c.args.item.key c.args.self.now.records.items, c.requires.shape.children, length-map cs t) in
    let m = down-children d t cs cs c.args.at c.index_mut.result.now c.replace.new.self c.args.item u refl refl c.requires.place h c.index_mut.ensures.value c.replace.ensures in
    c.recount.ensures ∙ down-same d c.args.item u (map t (set cs c.args.at c.replace.new.self)) c.requires.shape m c.requires.new c.requires.there
