use Rattle.std.proofs.Common.{◌≡◌, ◌∙◌, ◌-◌, sym, ap, arith}
use Rattle.h5w_model.specs.Programs.{used}
use Rattle.h5w_model.specs.Tables.{tree_node, tree_lookup}
use Rattle.h5w_lookup.specs.Attempts.{known_of, rules_of}
use Rattle.h5w_lookup.specs.Blocks.{node_at}
use Rattle.h5w_bt.specs.Lengths.{node_len}
use Rattle.h5w_lookup.specs.Turning.{turned, turning}
use Rattle.h5w_lookup.specs.Seeking.{next_rest, store_rest, wait_given}
use Rattle.h5w_lookup.specs.Stores.{kept}
use Rattle.h5w_lookup.specs.Descents.{after_next, descended}
use Rattle.h5w_lookup.specs.declared.content.Turn.TheVariants as turns
use Rattle.h5w_lookup.specs.declared.wait.Wait.TheVariants.{Node}
use Rattle.h5w_lookup.proofs.PieceLemmas.{along}
use Rattle.h5w_lookup.proofs.StoreLemmas.{read_of}
use Rattle.h5w_lookup.proofs.NodeLemmas.{read_few, read_given, node_refused, turn_found}
use Rattle.h5w_lookup.proofs.DescentLemmas.{put_used, refused_block}
use Rattle.h5w_lookup.proofs.descent.Descent.enter_node.Goals as goal

pub turn-turn-requires : goal.turn-turn-requires
turn-turn-requires c =
    let w = c.args.w in
    read_few w.depth w.at w.n c.args.bytes.items c.in-Ok.block.content w.shallow (read_of (tree_node w.depth) w.at (node_len w.depth w.n) c.args.bytes.items c.in-Ok.block c.in-Ok.ensures)

pub returns-in-Err : goal.returns-in-Err
returns-in-Err c =
    let g = rules_of c.args.rules.now (known_of c.args.known.now) in
    let w = c.args.w in
    let b = c.args.bytes.items in
    let next = after_next g c.args.self in
    refused_block g w.at c.refused.result c.in-Err.fault (node_at w.depth b w.at w.n) (wait_given (kept c.args.self.store) (Node w) next b) c.refused.ensures.refused c.refused.ensures.other c.in-Err.ensures
    (λ e. node_refused (used 16 (tree_node w.depth) w.at (node_len w.depth w.n) b (kept c.args.self.store)) w.depth w.at w.n w.key b c.in-Err.fault next e)

pub returns-in-Found : goal.returns-in-Found
returns-in-Found c =
    let g = rules_of c.args.rules.now (known_of c.args.known.now) in
    let w = c.args.w in
    let b = c.args.bytes.items in
    let x = c.in-Ok.block in
    let is = c.in-Ok.ensures in
    let next = after_next g c.args.self in
    let old = kept c.args.self.store in
    let ks = used 16 (tree_node w.depth) w.at (node_len w.depth w.n) b old in
    let said = read_given w.depth w.at w.n w.key b x.content w.shallow (read_of (tree_node w.depth) w.at (node_len w.depth w.n) b x is) in
    let turn : turned w.depth w.key (turns.Found c.in-Found.address) ≡ turning w.depth w.key x.content = ap (turned w.depth w.key) (sym c.in-Found.is) ∙ c.turn-turn.ensures.exact in
    along (descended g) c.found.result _ (wait_given old (Node w) next b) c.found.ensures
    (ap (λ k. next_rest k next c.in-Found.address) (put_used (tree_node w.depth) w.at (node_len w.depth w.n) b x old (kept c.put.new.self) is c.in_ok-put.ensures)
    ∙ turn_found ks next c.in-Found.address
    ∙ ap (λ q. store_rest ks q next) (turn ∙ sym said))

pub node-way-requires : goal.node-way-requires
node-way-requires c = record { shallow = omega (arith, c.args.w.shallow); few = c.in-Under.ensures.few.1 }

pub returns-in-Under : goal.returns-in-Under
returns-in-Under c =
    let g = rules_of c.args.rules.now (known_of c.args.known.now) in
    let w = c.args.w in
    let b = c.args.bytes.items in
    let x = c.in-Ok.block in
    let is = c.in-Ok.ensures in
    let next = after_next g c.args.self in
    let old = kept c.args.self.store in
    let child = c.in-Under.child in
    let ks = used 16 (tree_node w.depth) w.at (node_len w.depth w.n) b old in
    let said = read_given w.depth w.at w.n w.key b x.content w.shallow (read_of (tree_node w.depth) w.at (node_len w.depth w.n) b x is) in
    let turn = ap (turned w.depth w.key) (sym c.in-Under.is) ∙ c.turn-turn.ensures.exact in
    along (descended g) c.resume.result _ (wait_given old (Node w) next b) c.resume.ensures
    (c.node-way.ensures.exact next
    ∙ ap (λ k. store_rest k (tree_lookup (w.depth - 1) w.key child.address child.records) next) (put_used (tree_node w.depth) w.at (node_len w.depth w.n) b x old (kept c.put.new.self) is c.in_ok-put.ensures)
    ∙ ap (λ q. store_rest ks q next) (turn ∙ sym said))
