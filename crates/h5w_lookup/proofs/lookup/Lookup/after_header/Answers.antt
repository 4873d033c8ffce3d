use Rattle.std.proofs.Common.{◌≡◌, ◌∙◌, sym, ap, Ok, Err}
use Rattle.h5w_model.specs.Checked.{viewed}
use Rattle.h5w_model.specs.Arrays.{eahd_at}
use Rattle.h5w_ea.specs.Fields.{eahd_of}
use Rattle.h5w_dataset.specs.Described.{described_of}
use Rattle.h5w_model.specs.Tables.{needed}
use Rattle.h5w_model.specs.Calls.{known_table}
use Rattle.h5w_lookup.specs.Attempts.{known_of, rules_of, looked_up, array_rest}
use Rattle.h5w_lookup.proofs.PieceLemmas.{along}
use Rattle.h5w_lookup.proofs.IndexLemmas.{nowhere_indexed}
use Rattle.h5w_lookup.proofs.TableLemmas.{array_err, array_none, array_some}
use Rattle.h5w_lookup.proofs.lookup.Lookup.after_header.Goals as goal

pub returns-in-Err : goal.returns-in-Err
returns-in-Err c =
    let b = c.args.bytes.now in
    let said : eahd_at b c.args.at ≡ Err c.in-Err.fault = sym c.decode.ensures.exact ∙ ap (viewed eahd_of) c.in-Err.is in
    sym (array_err c.args.rules.now.place (known_table (known_of c.args.known.now) (described_of c.args.d.now)) (described_of c.args.d.now) c.args.at b c.in-Err.fault said)

pub returns-then-block : goal.returns-then-block
returns-then-block c =
    let b = c.args.bytes.now in
    let d = described_of c.args.d.now in
    let said : eahd_at b c.args.at ≡ Ok (eahd_of c.in-Ok.header) = sym c.decode.ensures.exact ∙ ap (viewed eahd_of) c.in-Ok.is in
    along (looked_up (rules_of c.args.rules.now (known_of c.args.known.now))) c.descend.result _ (array_rest c.args.rules.now.place (known_table (known_of c.args.known.now) d) d c.args.at b) c.descend.ensures
    (sym (array_none c.args.rules.now.place (known_table (known_of c.args.known.now) d) d c.args.at b (eahd_of c.in-Ok.header) said c.if-block.true))

pub returns : goal.returns
returns c =
    let b = c.args.bytes.now in
    let d = described_of c.args.d.now in
    let said : eahd_at b c.args.at ≡ Ok (eahd_of c.in-Ok.header) = sym c.decode.ensures.exact ∙ ap (viewed eahd_of) c.in-Ok.is in
    rw (c.new-index.ensures.left, c.new-index.ensures.start, c.new.ensures.items) (sym (array_some c.args.rules.now.place (known_table (known_of c.args.known.now) d) d c.args.at b (eahd_of c.in-Ok.header) said c.if-block.false))

pub descend-requires-clause-indexed : goal.descend-requires-clause-indexed
descend-requires-clause-indexed c = nowhere_indexed (needed (described_of c.args.d.now))
