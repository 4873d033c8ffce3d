use Rattle.std.proofs.Common.{length, refl, ◌∙◌, ap}
use Rattle.std.specs.Global.{Box}
use Rattle.h5w_model.specs.Programs.{fed}
use Rattle.h5w_dataset.specs.Described.{described_of}
use Rattle.h5w_model.specs.Calls.{known_table}
use Rattle.h5w_lookup.specs.Attempts.{known_of, rules_of, looked_up, looking_up, array_rest, index_rest, tree_rest}
use Rattle.h5w_lookup.specs.Descents.{reading_news, waiting}
use Rattle.h5w_lookup.specs.declared.descent.Waiting.{Waiting}
use Rattle.h5w_lookup.specs.declared.lookup.Lookup.TheVariants.{Block}
use Rattle.h5w_lookup.proofs.OutcomeLemmas.{mapped_left}
use Rattle.h5w_lookup.proofs.PieceLemmas.{along}
use Rattle.h5w_lookup.proofs.GatherLemmas.{fed_more, fed_whole, fits_gather}
use Rattle.h5w_lookup.proofs.lookup.Lookup.feed.Goals as goal

pub feed-requires : goal.feed-requires
feed-requires c = fits_gather c.in-Array.gather (array_rest c.args.rules.now.place (known_table (known_of c.args.known.now) (described_of c.in-Array.small.dataset)) (described_of c.in-Array.small.dataset) c.in-Array.gather.start) (length c.args.piece.now) (rw c.in-Array.is at c.requires)

pub feed-requires-in-Index : goal.feed-requires-in-Index
feed-requires-in-Index c = fits_gather c.in-Index.gather (index_rest c.args.rules.now.place (known_table (known_of c.args.known.now) (described_of c.in-Index.small.dataset)) (described_of c.in-Index.small.dataset) c.in-Index.gather.start) (length c.args.piece.now) (rw c.in-Index.is at c.requires)

pub returns-in-Looks : goal.returns-in-Looks
returns-in-Looks c =
    let e = rw c.in-Looks.is at c.in_ok-gather-in-Array.ensures in
    rw (c.in-Array.is, e.start) (fed_more c.in-Array.gather c.in-Looks.gather c.args.piece.now (array_rest c.args.rules.now.place (known_table (known_of c.args.known.now) (described_of c.in-Array.small.dataset)) (described_of c.in-Array.small.dataset) c.in-Array.gather.start) e.left)

pub returns-in-Looks-2 : goal.returns-in-Looks-2
returns-in-Looks-2 c =
    let e = rw c.in-Looks-2.is at c.in_ok-gather-in-Index.ensures in
    rw (c.in-Index.is, e.start) (fed_more c.in-Index.gather c.in-Looks-2.gather c.args.piece.now (index_rest c.args.rules.now.place (known_table (known_of c.args.known.now) (described_of c.in-Index.small.dataset)) (described_of c.in-Index.small.dataset) c.in-Index.gather.start) e.left)

pub returns-in-Done : goal.returns-in-Done
returns-in-Done c =
    let e = rw c.in-Done.is at c.in_ok-gather-in-Array.ensures in
    let d = described_of c.in-Array.small.dataset in
    let whole = fed_whole c.in-Array.gather c.in-Done.bytes.items c.args.piece.now (array_rest c.args.rules.now.place (known_table (known_of c.args.known.now) d) d c.in-Array.gather.start) e.left in
    along (looked_up (rules_of c.args.rules.now (known_of c.args.known.now))) c.after_header.result (array_rest c.args.rules.now.place (known_table (known_of c.args.known.now) d) d c.start-at.result c.deref.result.now) (fed c.args.piece.now (looking_up (rules_of c.args.rules.now (known_of c.args.known.now)) c.args.self)) c.after_header.ensures
    (rw (c.in-Array.is, c.start-at.ensures, c.deref.ensures.value) whole)

pub returns-in-Done-2 : goal.returns-in-Done-2
returns-in-Done-2 c =
    let e = rw c.in-Done-2.is at c.in_ok-gather-in-Index.ensures in
    let d = described_of c.in-Index.small.dataset in
    let whole = fed_whole c.in-Index.gather c.in-Done-2.bytes.items c.args.piece.now (index_rest c.args.rules.now.place (known_table (known_of c.args.known.now) d) d c.in-Index.gather.start) e.left in
    along (looked_up (rules_of c.args.rules.now (known_of c.args.known.now))) c.after_index.result (index_rest c.args.rules.now.place (known_table (known_of c.args.known.now) d) d c.start-at-in-Index.result c.deref-in-Done-2.result.now) (fed c.args.piece.now (looking_up (rules_of c.args.rules.now (known_of c.args.known.now)) c.args.self)) c.after_index.ensures
    (rw (c.in-Index.is, c.start-at-in-Index.ensures, c.deref-in-Done-2.ensures.value) whole)

pub feed-requires-in-Tree : goal.feed-requires-in-Tree
feed-requires-in-Tree c = fits_gather c.in-Tree.gather (tree_rest c.args.rules.now.place (known_table (known_of c.args.known.now) (described_of c.in-Tree.large.dataset)) (described_of c.in-Tree.large.dataset) c.in-Tree.gather.start) (length c.args.piece.now) (rw c.in-Tree.is at c.requires)

pub returns-in-Looks-3 : goal.returns-in-Looks-3
returns-in-Looks-3 c =
    let e = rw c.in-Looks-3.is at c.in_ok-gather-in-Tree.ensures in
    rw (c.in-Tree.is, e.start) (fed_more c.in-Tree.gather c.in-Looks-3.gather c.args.piece.now (tree_rest c.args.rules.now.place (known_table (known_of c.args.known.now) (described_of c.in-Tree.large.dataset)) (described_of c.in-Tree.large.dataset) c.in-Tree.gather.start) e.left)

pub returns-in-Done-3 : goal.returns-in-Done-3
returns-in-Done-3 c =
    let e = rw c.in-Done-3.is at c.in_ok-gather-in-Tree.ensures in
    let d = described_of c.in-Tree.large.dataset in
    let whole = fed_whole c.in-Tree.gather c.in-Done-3.bytes.items c.args.piece.now (tree_rest c.args.rules.now.place (known_table (known_of c.args.known.now) d) d c.in-Tree.gather.start) e.left in
    along (looked_up (rules_of c.args.rules.now (known_of c.args.known.now))) c.after_tree.result (tree_rest c.args.rules.now.place (known_table (known_of c.args.known.now) d) d c.start-at-in-Tree.result c.deref-in-Done-3.result.now) (fed c.args.piece.now (looking_up (rules_of c.args.rules.now (known_of c.args.known.now)) c.args.self)) c.after_tree.ensures
    (rw (c.in-Tree.is, c.start-at-in-Tree.ensures, c.deref-in-Done-3.ensures.value) whole)

pub returns-in_ok-descended-in-Block : goal.returns-in_ok-descended-in-Block
returns-in_ok-descended-in-Block c =
    let g = rules_of c.args.rules.now (known_of c.args.known.now) in
    rw c.in-Block.is (mapped_left (reading_news g.known) (λ (w : Box Waiting). waiting g w.value) Block (looking_up g) c.in_ok-descended-in-Block.descended c.map_looks.result c.map_looks.ensures (λ w. refl)
    ∙ c.in_ok-descended-in-Block.ensures
    ∙ ap (λ (w : Waiting). fed c.args.piece.now (waiting g w)) c.into_inner-waiting.ensures)
