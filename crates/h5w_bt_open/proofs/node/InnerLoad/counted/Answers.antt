use Rattle.std.proofs.Common.{◌≡◌, ◌≤◌, ◌^◌, suc, List, map, ap, arith}
use Rattle.std.specs.List.{sum_by}
use Rattle.h5w_bt_nodes.specs.Nodes.{total_of}
use Rattle.h5w_bt_nodes.proofs.Shapes.{counted_small, power_fits}
use Rattle.h5w_bt_open.proofs.node.InnerLoad.counted.Goals as goal

pub count-requires : goal.count-requires
count-requires g c =
    let d = g.C.Subtree.depth in
    let t = g.C.Subtree.tree in
    let rs = c.args.self.records.items in
    let cs = c.args.self.children.items in
    let e : sum_by (total_of g.C.Subtree.depth) (map g.C.Subtree.tree c.deref.result.now) ≡ sum_by (total_of g.C.Subtree.depth) (map g.C.Subtree.tree c.args.self.children.items) =
    ap (λ (l : List _). sum_by (total_of d) (map t l)) c.deref.ensures.value in
    let few = counted_small d rs (map t cs) c.requires.shallow (omega (arith, c.requires.shape.few)) c.requires.shape.children c.requires.shape.each in
    let fits : 256 ^ suc (suc g.C.Subtree.depth) ≤ 2 ^ 64 = power_fits (suc d) c.requires.shallow in
    omega (arith, e, few, fits, c.len.ensures)
