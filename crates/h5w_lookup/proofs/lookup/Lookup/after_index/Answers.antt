use Rattle.std.proofs.Common.{◌≡◌, ◌∙◌, sym, ap, Ok, Err}
use Rattle.h5w_model.specs.Checked.{viewed}
use Rattle.h5w_model.specs.Arrays.{eaib_at}
use Rattle.h5w_ea.specs.Fields.{eaib_of}
use Rattle.h5w_dataset.specs.Described.{described_of}
use Rattle.h5w_model.specs.Tables.{needed}
use Rattle.h5w_model.specs.Calls.{known_table}
use Rattle.h5w_lookup.specs.Attempts.{known_of, rules_of, looked_up, index_rest}
use Rattle.h5w_lookup.proofs.PieceLemmas.{along}
use Rattle.h5w_lookup.proofs.IndexLemmas.{array_indexed}
use Rattle.h5w_lookup.proofs.TableLemmas.{index_ok, index_err}
use Rattle.h5w_lookup.proofs.lookup.Lookup.after_index.Goals as goal

pub returns-in-Ok : goal.returns-in-Ok
returns-in-Ok c =
    let b = c.args.bytes.now in
    let d = described_of c.args.d.now in
    let said : eaib_at b c.args.at ≡ Ok (eaib_of c.in-Ok.index) = sym c.decode.ensures.exact ∙ ap (viewed eaib_of) c.in-Ok.is in
    along (looked_up (rules_of c.args.rules.now (known_of c.args.known.now))) c.descend.result _ (index_rest c.args.rules.now.place (known_table (known_of c.args.known.now) d) d c.args.at b) c.descend.ensures
    (sym (index_ok c.args.rules.now.place (known_table (known_of c.args.known.now) d) d c.args.at b (eaib_of c.in-Ok.index) said))

pub returns-in-Err : goal.returns-in-Err
returns-in-Err c =
    let b = c.args.bytes.now in
    let said : eaib_at b c.args.at ≡ Err c.in-Err.fault = sym c.decode.ensures.exact ∙ ap (viewed eaib_of) c.in-Err.is in
    sym (index_err c.args.rules.now.place (known_table (known_of c.args.known.now) (described_of c.args.d.now)) (described_of c.args.d.now) c.args.at b c.in-Err.fault said)

pub descend-requires-clause-indexed : goal.descend-requires-clause-indexed
descend-requires-clause-indexed c = array_indexed (needed (described_of c.args.d.now)) c.in-Ok.index c.requires.few
