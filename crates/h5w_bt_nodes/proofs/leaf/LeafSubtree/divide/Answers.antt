use Rattle.std.proofs.Common.{ℕ, ◌+◌, ◌/◌, List, drop, take, sym, ap, ◌∙◌}
use Rattle.h5w_model.specs.Numbers.{undefined}
use Rattle.h5w_bt.specs.declared.records.Record.{Record}
use Rattle.h5w_bt_nodes.specs.Puts.{changed_leaf, no_record}
use Rattle.h5w_bt_nodes.proofs.Edits.{front_of}
use Rattle.h5w_bt_nodes.proofs.Parts.{over-half}
use Rattle.h5w_bt_nodes.specs.Typed.{leaf_of}
use Rattle.h5w_bt_nodes.proofs.leaf.LeafSubtree.divide.Goals as goal

pub returns-clause-left : goal.returns-clause-left
returns-clause-left c =
    let p = front_of 42 c.args.self.now.records.items c.take_last-middle.new.self.items c.take_last-middle.result no_record
    (over-half 0 (leaf_of c.args.self.now) c.requires.over) (ap (λ (n : ℕ). take (n / 2 + 1) c.args.self.now.records.items) (sym c.capacity.ensures.exact) ∙ sym c.move_tail.ensures.stay ∙ c.take_last-middle.ensures.items) in
    ap (λ (l : List Record). changed_leaf l c.args.self.now.place) (p.0)

pub returns-clause-middle : goal.returns-clause-middle
returns-clause-middle c =
    let p = front_of 42 c.args.self.now.records.items c.take_last-middle.new.self.items c.take_last-middle.result no_record
    (over-half 0 (leaf_of c.args.self.now) c.requires.over) (ap (λ (n : ℕ). take (n / 2 + 1) c.args.self.now.records.items) (sym c.capacity.ensures.exact) ∙ sym c.move_tail.ensures.stay ∙ c.take_last-middle.ensures.items) in
    p.1

pub returns-clause-right : goal.returns-clause-right
returns-clause-right c =
    ap (λ (l : List Record). changed_leaf l undefined) (c.move_tail.ensures.moved ∙ ap (λ (n : ℕ). drop (n / 2 + 1) c.args.self.now.records.items) c.capacity.ensures.exact)
