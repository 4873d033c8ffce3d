use Rattle.std.proofs.Common.{◌≤◌, ◌++◌, ◌∙◌, zero, ap, refl, sym, append-nil, length, List, ℕ}
use Rattle.std.proofs.lemmas.Bool.{both_ways, cond-true}
use Rattle.h5w_bt_nodes.specs.Typed.{leaf_of}
use Rattle.h5w_bt_nodes.specs.Blocks.{news, pointer_of, writes_of}
use Rattle.h5w_bt_nodes.proofs.Written.{leaf_changes, leaf_written, place_same}
use Rattle.h5w_bt_nodes.proofs.leaf.LeafSubtree.write.Goals as goal

-- ---- A leaf that did not change

pub returns-then-self-clause-count : goal.returns-then-self-clause-count
returns-then-self-clause-count c = sym (ap length (cond-true c.args.self.now.clean _ _ c.if-self.true))

pub returns-then-self-clause-pointer : goal.returns-then-self-clause-pointer
returns-then-self-clause-pointer c = c.pointer.ensures ∙ sym (ap (pointer_of zero) (cond-true c.args.self.now.clean _ _ c.if-self.true))

pub returns-then-self-clause-written : goal.returns-then-self-clause-written
returns-then-self-clause-written c =
    sym (append-nil c.args.out.now.items) ∙ ap (λ (l : List (ℕ × List ℕ)). c.args.out.now.items ++ writes_of l) (sym (cond-true c.args.self.now.clean _ _ c.if-self.true))

pub returns-then-self-clause-reads : goal.returns-then-self-clause-reads
returns-then-self-clause-reads c = λ f. absurd (both_ways c.args.self.now.clean f c.if-self.true)

-- ---- One that changed

pub returns-clause-written : goal.returns-clause-written
returns-clause-written c =
    let u = leaf_of c.args.self.now in
    let ms = c.args.moves.now in
    let enough : 1 ≤ length ms = leaf_changes u (length ms) c.if-self.false c.requires.enough in
    leaf_written (news ms) u _ _ c.args.out.now.items c.put_leaf.new.out.items c.if-self.false (place_same ms _ 0 0 refl enough)
    refl c.in_ok-put_leaf.ensures.written
