use Rattle.h5w_dataset.specs.Described.{described_of}
use Rattle.h5w_writer_open.proofs.OpenStepLemmas.{bad_tree, good_tree, unordered_tree, wrong_tree}
use Rattle.h5w_writer_open.proofs.opening.open_tree.Goals as goal

pub returns-in-Ok-Tree-clause-step : goal.returns-in-Ok-Tree-clause-step
returns-in-Ok-Tree-clause-step g c =
    let e = c.in-Ok-Tree.ensures in
    let f = rw c.in-Ok-Tree.field-0-is at e in
    good_tree (described_of c.args.d.now) c.first_key.result c.requires.tree c.requires.named c.first_key.ensures e.loads.looked c.in-Ok-Tree.field-0 e.exact c.in-Ok-Tree.tree c.in-Ok-Tree.field-0-is f.place f.clean

pub returns-in-Ok-WrongTotals-clause-step : goal.returns-in-Ok-WrongTotals-clause-step
returns-in-Ok-WrongTotals-clause-step g c =
    let e = c.in-Ok-WrongTotals.ensures in
    wrong_tree (described_of c.args.d.now) c.first_key.result c.requires.tree c.requires.named c.first_key.ensures e.loads.looked c.in-Ok-WrongTotals.field-0 e.exact c.in-Ok-WrongTotals.field-0-is

pub returns-in-Ok-Unordered-clause-step : goal.returns-in-Ok-Unordered-clause-step
returns-in-Ok-Unordered-clause-step g c =
    let e = c.in-Ok-Unordered.ensures in
    unordered_tree (described_of c.args.d.now) c.first_key.result c.requires.tree c.requires.named c.first_key.ensures e.loads.looked c.in-Ok-Unordered.field-0 e.exact c.in-Ok-Unordered.field-0-is

pub returns-in-Err-clause-step : goal.returns-in-Err-clause-step
returns-in-Err-clause-step g c =
    bad_tree (described_of c.args.d.now) c.first_key.result c.in-Err.e c.tree_error.result c.requires.tree c.requires.named c.first_key.ensures c.tree_error.ensures c.in-Err.ensures.loads
