use Rattle.std.proofs.Common.{sym, ◌∙◌, map}
use Rattle.h5w_bt_nodes.specs.Typed.{inner_of}
use Rattle.h5w_bt_nodes.proofs.Shapes.{shape_at}
use Rattle.h5w_bt_nodes.proofs.Children.{child-there}
use Rattle.h5w_bt_nodes.proofs.Searched.{found-searched, inside-children}
use Rattle.h5w_bt_nodes.proofs.inner.InnerSubtree.find.Goals as goal

pub find-requires : goal.find-requires
find-requires g c =
    let t = g.C.Subtree.tree in
    let cs = c.args.self.now.children.items in
    let h = inside-children t cs c.args.self.now.records.items c.deref.result.now c.search-at.result.0 c.requires.children c.deref.ensures.value c.search-at.ensures.inside in
    shape_at g.C.Subtree.depth (map t cs) c.search-at.result.0 (t c.index.result.now) c.requires.each
    (child-there t cs c.search-at.result.0 c.index.result.now h c.index.ensures)

pub returns-else-is_some : goal.returns-else-is_some
returns-else-is_some g c =
    let t = g.C.Subtree.tree in
    let cs = c.args.self.now.children.items in
    let h = inside-children t cs c.args.self.now.records.items c.deref.result.now c.search-at.result.0 c.requires.children c.deref.ensures.value c.search-at.ensures.inside in
    c.find.ensures ∙ sym (found-searched g.C.Subtree.depth c.args.key (inner_of g.C.Subtree.depth t c.args.self.now) c.search-at.result.0 c.deref.result.now c.search-at.result.1
    (t c.index.result.now) c.deref.ensures.value c.search-at.ensures.place c.search-at.ensures.found (sym c.if-is_some.ensures)
    (child-there t cs c.search-at.result.0 c.index.result.now h c.index.ensures))
