use Rattle.std.proofs.Common.{ap, ◌∙◌, map}
use Rattle.h5w_bt_nodes.specs.Puts.{left_of, right_of}
use Rattle.h5w_bt_nodes.proofs.Children.{child-is, in-two}
use Rattle.h5w_bt_nodes.proofs.inner.Inner.divide_child.Goals as goal

pub returns-clause-children : goal.returns-clause-children
returns-clause-children g c = λ b e.
    let d = g.C.Subtree.depth in
    let t = g.C.Subtree.tree in
    let cs = c.args.self.now.children.items in
    let l = child-is t cs c.args.at c.index_mut.result.now b c.requires.inside c.index_mut.ensures.value e in
    ap (map t) c.insert_reserved-2.ensures
    ∙ in-two t cs c.args.at c.divide-right.new.self c.divide-right.result.1 (left_of d b) (right_of d b)
    (c.divide-right.ensures.left ∙ ap (left_of d) l) (c.divide-right.ensures.right ∙ ap (right_of d) l)
