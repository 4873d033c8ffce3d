use Rattle.std.proofs.Common.{◌≡◌, ◌<◌, ◌≤◌, ◌∙◌, true, ap, sym, arith}
use Rattle.h5w_model.specs.Calls.{known_table, some_unknown}
use Rattle.h5w_model.specs.Tables.{needed, needed_keys}
use Rattle.h5w_dataset.specs.Described.{described_of}
use Rattle.h5w_lookup.specs.Slots.{answered}
use Rattle.h5w_lookup.specs.Unknown.{unknown_at, needed_with}
use Rattle.h5w_lookup.proofs.UnknownLemmas.{known_first, unknown_is, found_start}
use Rattle.h5w_lookup.specs.Attempts.{known_of, rules_of, looked_up, table_rest}
use Rattle.h5w_lookup.proofs.PieceLemmas.{along}
use Rattle.h5w_lookup.proofs.IndexLemmas.{nowhere_indexed}
use Rattle.h5w_lookup.proofs.TableLemmas.{rest_known, rest_nowhere, rest_array, rest_tree, array_kind, tree_kind, lacks_none, lacks_some}
use Rattle.h5w_lookup.proofs.lookup.Lookup.begin.Goals as goal

pub returns-then-needed-unknown : goal.returns-then-needed-unknown
returns-then-needed-unknown c =
    let d = described_of c.args.d.now in
    let known = known_table (known_of c.args.known.now) d in
    let place = c.args.rules.now.place in
    let all : needed d ≤ unknown_at known 0 = omega (arith, c.needed-needed.ensures, c.if-needed-unknown.true, c.unknown.ensures) in
    ap (λ xs. answered place d (needed_with known d xs)) c.new.ensures.items
    ∙ ap (answered place d) (found_start known (needed d) all)
    ∙ sym (rest_known place known d (lacks_none known d (unknown_at known 0) (known_first known) (unknown_is known 0) all))

pub returns-then-address : goal.returns-then-address
returns-then-address c =
    let d = described_of c.args.d.now in
    let known = known_table (known_of c.args.known.now) d in
    let place = c.args.rules.now.place in
    let less : unknown_at known 0 < needed d = omega (arith, c.needed-needed.ensures, c.if-needed-unknown.false, c.unknown.ensures) in
    let some : some_unknown known (needed_keys d) ≡ true = lacks_some known d (unknown_at known 0) (known_first known) (unknown_is known 0) less in
    along (looked_up (rules_of c.args.rules.now (known_of c.args.known.now))) c.descend.result _ (table_rest place known d) c.descend.ensures (sym (rest_nowhere place known d some c.if-address.true))

pub returns-then-d : goal.returns-then-d
returns-then-d c =
    let d = described_of c.args.d.now in
    let known = known_table (known_of c.args.known.now) d in
    let place = c.args.rules.now.place in
    let less : unknown_at known 0 < needed d = omega (arith, c.needed-needed.ensures, c.if-needed-unknown.false, c.unknown.ensures) in
    let some : some_unknown known (needed_keys d) ≡ true = lacks_some known d (unknown_at known 0) (known_first known) (unknown_is known 0) less in
    rw (c.new-tree.ensures.left, c.new-tree.ensures.start, c.new-then-d.ensures.items) (sym (rest_tree place known d some c.if-address.false (tree_kind c.args.d.now c.if-d.true)))

pub returns : goal.returns
returns c =
    let d = described_of c.args.d.now in
    let known = known_table (known_of c.args.known.now) d in
    let place = c.args.rules.now.place in
    let less : unknown_at known 0 < needed d = omega (arith, c.needed-needed.ensures, c.if-needed-unknown.false, c.unknown.ensures) in
    let some : some_unknown known (needed_keys d) ≡ true = lacks_some known d (unknown_at known 0) (known_first known) (unknown_is known 0) less in
    rw (c.new-header.ensures.left, c.new-header.ensures.start, c.new-2.ensures.items) (sym (rest_array place known d some c.if-address.false (array_kind c.args.d.now c.if-d.false)))

pub descend-requires-clause-indexed : goal.descend-requires-clause-indexed
descend-requires-clause-indexed c = nowhere_indexed (needed (described_of c.args.d.now))
