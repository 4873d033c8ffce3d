use Rattle.std.proofs.Common.{suc, sym, subst}
use Rattle.h5w_bt.specs.Parts.{child_of}
use Rattle.h5w_bt_nodes.specs.Nodes.{Tree}
use Rattle.h5w_bt_nodes.specs.Typed.{inner_of}
use Rattle.h5w_bt_open.specs.Opened.{IsHeld, IsOpened, told_under, with_total}
use Rattle.h5w_bt_open.proofs.HeldLemmas.{counted_held, counted_opened}
use Rattle.h5w_bt_open.proofs.tree.load_inner.Goals as goal

pub returns-clause-held : goal.returns-clause-held
returns-clause-held g c =
    let d = g.C.Subtree.depth in
    let p = child_of c.args.child in
    subst (λ (t : Tree (suc g.C.Subtree.depth)). IsHeld (suc d) (with_total p (told_under (suc d) t)) t) (sym c.counted.ensures) (counted_held (suc d) p (inner_of d g.C.Subtree.tree c.in-Ok.root) c.in-Ok.ensures.held)

pub returns-clause-opened : goal.returns-clause-opened
returns-clause-opened g c = λ img still.
    let d = g.C.Subtree.depth in
    let p = child_of c.args.child in
    subst (λ (t : Tree (suc g.C.Subtree.depth)). IsOpened img (suc d) (with_total p (told_under (suc d) t)) c.args.span t) (sym c.counted.ensures)
    (counted_opened img (suc d) p c.args.span (inner_of d g.C.Subtree.tree c.in-Ok.root) (c.in-Ok.ensures.opened img still))
