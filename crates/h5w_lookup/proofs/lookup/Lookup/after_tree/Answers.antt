use Rattle.std.proofs.Common.{◌≡◌, ◌∙◌, sym, ap, Ok, Err}
use Rattle.h5w_model.specs.Checked.{viewed}
use Rattle.h5w_model.specs.Tables.{needed}
use Rattle.h5w_model.specs.Trees.{bthd_at}
use Rattle.h5w_bt.specs.Fields.{bthd_of}
use Rattle.h5w_dataset.specs.Described.{described_of}
use Rattle.h5w_model.specs.Calls.{known_table}
use Rattle.h5w_laws.proofs.NodeLemmas.{root_is}
use Rattle.h5w_lookup.specs.Attempts.{known_of, rules_of, looked_up, tree_rest}
use Rattle.h5w_lookup.proofs.PieceLemmas.{along}
use Rattle.h5w_lookup.proofs.IndexLemmas.{nowhere_indexed, tree_indexed}
use Rattle.h5w_lookup.proofs.TableLemmas.{tree_err, tree_none, tree_some}
use Rattle.h5w_lookup.proofs.lookup.Lookup.after_tree.Goals as goal

pub returns-in-Err : goal.returns-in-Err
returns-in-Err c =
    let b = c.args.bytes.now in
    let said : bthd_at b c.args.at ≡ Err c.in-Err.fault = sym c.decode.ensures.exact ∙ ap (viewed bthd_of) c.in-Err.is in
    sym (tree_err c.args.rules.now.place (known_table (known_of c.args.known.now) (described_of c.args.d.now)) (described_of c.args.d.now) c.args.at b c.in-Err.fault said)

pub returns-then-tree : goal.returns-then-tree
returns-then-tree c =
    let b = c.args.bytes.now in
    let d = described_of c.args.d.now in
    let said : bthd_at b c.args.at ≡ Ok (bthd_of c.in-Ok.tree) = sym c.decode.ensures.exact ∙ ap (viewed bthd_of) c.in-Ok.is in
    along (looked_up (rules_of c.args.rules.now (known_of c.args.known.now))) c.descend.result _ (tree_rest c.args.rules.now.place (known_table (known_of c.args.known.now) d) d c.args.at b) c.descend.ensures
    (sym (tree_none c.args.rules.now.place (known_table (known_of c.args.known.now) d) d c.args.at b (bthd_of c.in-Ok.tree) said c.if-tree.true))

pub returns : goal.returns
returns c =
    let b = c.args.bytes.now in
    let d = described_of c.args.d.now in
    let said : bthd_at b c.args.at ≡ Ok (bthd_of c.in-Ok.tree) = sym c.decode.ensures.exact ∙ ap (viewed bthd_of) c.in-Ok.is in
    along (looked_up (rules_of c.args.rules.now (known_of c.args.known.now))) c.descend-2.result _ (tree_rest c.args.rules.now.place (known_table (known_of c.args.known.now) d) d c.args.at b) c.descend-2.ensures
    (sym (tree_some c.args.rules.now.place (known_table (known_of c.args.known.now) d) d c.args.at b (bthd_of c.in-Ok.tree) said c.if-tree.false))

pub descend-requires-clause-indexed : goal.descend-requires-clause-indexed
descend-requires-clause-indexed c = nowhere_indexed (needed (described_of c.args.d.now))

pub descend-requires-2-clause-indexed : goal.descend-requires-2-clause-indexed
descend-requires-2-clause-indexed c =
    let said : bthd_at c.args.bytes.now c.args.at ≡ Ok (bthd_of c.in-Ok.tree) = sym c.decode.ensures.exact ∙ ap (viewed bthd_of) c.in-Ok.is in
    tree_indexed (needed (described_of c.args.d.now)) c.in-Ok.tree (root_is c.args.bytes.now c.args.at (bthd_of c.in-Ok.tree) said)
