use Rattle.std.proofs.Common.{◌≡◌, ◌+◌, ◌<◌, ◌^◌, List, [], ◌∷◌, ◌++◌, length, map, sum_by, ap, ap₂, ◌∙◌}
use Rattle.h5w_model.specs.Numbers.{undefined}
use Rattle.h5w_bt.specs.declared.records.Record.{Record}
use Rattle.h5w_bt_nodes.specs.Nodes.{Tree, total_of}
use Rattle.h5w_bt_nodes.specs.Puts.{changed_node}
use Rattle.h5w_bt_nodes.proofs.Down.{sums_small, raised-fits}
use Rattle.h5w_bt_nodes.proofs.growth.raise.Goals as goal

pub count-total-requires : goal.count-total-requires
count-total-requires g c =
    let d = g.C.Subtree.depth in
    let t = g.C.Subtree.tree in
    let r = t c.args.root.now in
    let rs = c.push_reserved.new.self.items in
    let cs = c.push_reserved-3.new.self.items in
    let ri = c.push_reserved.ensures.items ∙ ap (λ (l : List Record). l ++ c.divide-right.result.0 ∷ []) c.requires.above.empty in
    let ci = c.push_reserved-3.ensures.items ∙ ap (λ (l : List _). l ++ c.divide-right.result.1 ∷ []) (c.push_reserved-2.ensures.items ∙ ap (λ (l : List _). l ++ c.replace-left.result ∷ []) c.requires.above.childless) in
    let tl = ap t c.replace-left.ensures.value ∙ c.divide-right.ensures.left in
    let mi = ap (map t) ci ∙ ap₂ (λ (a b : Tree d). a ∷ b ∷ []) tl c.divide-right.ensures.right in
    let e = ap₂ (λ (a : List Record) (b : List (Tree d)). changed_node d a b undefined) (ri ∙ ap (λ (m : Record). m ∷ []) c.divide-right.ensures.middle) mi in
    let f : length rs + sum_by (total_of d) (map t cs) < 2 ^ 64 = raised-fits d r (changed_node d rs (map t cs) undefined) e c.requires.shallow c.requires.over c.requires.shape in
    let n : c.len.result ≡ length rs = c.len.ensures ∙ c.push_reserved.new.self.ok.0 in
    let q : sum_by (total_of d) (map t c.deref.result.now) ≡ sum_by (total_of d) (map t cs) = ap (λ (l : List _). sum_by (total_of d) (map t l)) c.deref.ensures.value in
    sums_small c.len.result (length rs) (sum_by (total_of d) (map t c.deref.result.now)) (sum_by (total_of d) (map t cs)) n q f
