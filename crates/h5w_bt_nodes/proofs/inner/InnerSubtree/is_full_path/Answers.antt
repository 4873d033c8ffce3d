use Rattle.std.proofs.Common.{◌≡◌, ◌+◌, ℕ, sym, ap, ◌∙◌, map, length, arith, add-one, suc}
use Rattle.h5w_model.specs.Trees.{capacity_of}
use Rattle.h5w_bt_nodes.specs.Typed.{inner_of}
use Rattle.h5w_bt_nodes.proofs.Shapes.{shape_at}
use Rattle.h5w_bt_nodes.proofs.Children.{child-there}
use Rattle.h5w_bt_nodes.proofs.Searched.{full-searched, inside-children}
use Rattle.h5w_bt_nodes.proofs.inner.InnerSubtree.is_full_path.Goals as goal

pub is_full_path-requires-clause-shape : goal.is_full_path-requires-clause-shape
is_full_path-requires-clause-shape g c =
    let t = g.C.Subtree.tree in
    let cs = c.args.self.now.children.items in
    let h = inside-children t cs c.args.self.now.records.items c.deref.result.now c.search-at.result.0 c.requires.shape.children c.deref.ensures.value c.search-at.ensures.inside in
    shape_at g.C.Subtree.depth (map t cs) c.search-at.result.0 (t c.index.result.now) c.requires.shape.each
    (child-there t cs c.search-at.result.0 c.index.result.now h c.index.ensures)

pub returns-then-len-capacity : goal.returns-then-len-capacity
returns-then-len-capacity g c =
    let t = g.C.Subtree.tree in
    let cs = c.args.self.now.children.items in
    let h = inside-children t cs c.args.self.now.records.items c.deref.result.now c.search-at.result.0 c.requires.shape.children c.deref.ensures.value c.search-at.ensures.inside in
    let e = c.capacity.ensures.exact ∙ ap capacity_of (ap (λ (n : ℕ). n + 1) c.depth.ensures ∙ add-one g.C.Subtree.depth) in
    let n : length c.args.self.now.records.items ≡ capacity_of (suc g.C.Subtree.depth) = omega (arith, e, c.if-len-capacity.true, c.len.ensures) in
    c.is_full_path.ensures ∙ sym (full-searched g.C.Subtree.depth c.args.key (inner_of g.C.Subtree.depth t c.args.self.now) c.search-at.result.0 c.deref.result.now
    (t c.index.result.now) c.deref.ensures.value c.search-at.ensures.place n (child-there t cs c.search-at.result.0 c.index.result.now h c.index.ensures))
