use Rattle.std.proofs.Common.{◌≡◌, ◌<◌, ◌≤◌, ◌∙◌, sym, ap, Ok, Err, arith}
use Rattle.h5w_model.specs.Checked.{viewed}
use Rattle.h5w_model.specs.Datasets.{described}
use Rattle.h5w_model.specs.Calls.{known_table}
use Rattle.h5w_model.specs.Tables.{needed, limit_of}
use Rattle.h5w_dataset.specs.Founds.{founds}
use Rattle.h5w_dataset.specs.Described.{described_of}
use Rattle.h5w_lookup.specs.Attempts.{known_of, looked_up, described_rest, table_rest, reader_limits, rules_of}
use Rattle.h5w_lookup.proofs.PieceLemmas.{along}
use Rattle.h5w_lookup.proofs.TableLemmas.{settled_err, settled_shrunk, settled_many, settled_any}
use Rattle.h5w_lookup.proofs.settling.settle.Goals as goal

pub returns-in-Err : goal.returns-in-Err
returns-in-Err c =
    let ms = founds c.args.found.now in
    let said : described ms ≡ Err c.in-Err.n = sym c.describe.ensures ∙ ap (viewed described_of) c.in-Err.is in
    sym (settled_err (rules_of c.args.rules.now (known_of c.args.known.now)) ms c.in-Err.n said)

pub returns-then-rows-seen : goal.returns-then-rows-seen
returns-then-rows-seen c =
    let ms = founds c.args.found.now in
    let d = described_of c.in-Ok.d in
    let said : described ms ≡ Ok d = sym c.describe.ensures ∙ ap (viewed described_of) c.in-Ok.is in
    rw c.rows_seen-seen.ensures (sym (settled_shrunk (rules_of c.args.rules.now (known_of c.args.known.now)) ms d said (rw c.rows_seen-seen.ensures at c.if-rows-seen.true)))

pub returns-then-from-needed : goal.returns-then-from-needed
returns-then-from-needed c =
    let ms = founds c.args.found.now in
    let d = described_of c.in-Ok.d in
    let said : described ms ≡ Ok d = sym c.describe.ensures ∙ ap (viewed described_of) c.in-Ok.is in
    let count : c.needed-needed.result ≡ needed d = c.needed-needed.ensures in
    let most : c.limit-limit.result ≡ limit_of reader_limits d.layout.index = c.limit-limit.ensures.exact in
    let many : c.limit-limit.result < needed d = omega (arith, c.from.ensures, c.if-from-needed.true) in
    rw count (sym (settled_many (rules_of c.args.rules.now (known_of c.args.known.now)) ms d c.limit-limit.result said (rw c.rows_seen-seen.ensures at c.if-rows-seen.false) most many))

pub returns : goal.returns
returns c =
    let g = rules_of c.args.rules.now (known_of c.args.known.now) in
    let ms = founds c.args.found.now in
    let d = described_of c.in-Ok.d in
    let said : described ms ≡ Ok d = sym c.describe.ensures ∙ ap (viewed described_of) c.in-Ok.is in
    let count : c.needed-needed.result ≡ needed d = c.needed-needed.ensures in
    let most : c.limit-limit.result ≡ limit_of reader_limits d.layout.index = c.limit-limit.ensures.exact in
    let few : needed d ≤ limit_of reader_limits d.layout.index = omega (arith, c.from.ensures, c.if-from-needed.false) in
    along (looked_up g) c.begin.result (table_rest g.place (known_table g.known d) d) (described_rest g ms) c.begin.ensures
    (sym (settled_any g ms d said (rw c.rows_seen-seen.ensures at c.if-rows-seen.false) few))
