use Rattle.std.proofs.Common.{◌≡◌, ◌+◌, ◌≤◌, ◌∙◌, true, cond, List, [], ℕ, length, sym, ap, arith, leb-true}
use Rattle.h5w_model.specs.Calls.{known_table, same_cut}
use Rattle.h5w_lookup.specs.Attempts.{known_of}
use Rattle.h5w_dataset.specs.Described.{described_of}
use Rattle.h5w_lookup.specs.Unknown.{absent_from, unknown_at}
use Rattle.h5w_lookup.proofs.UnknownLemmas.{all_behind}
use Rattle.h5w_lookup.proofs.recall.all_unknown.Goals as goal

pub returns-in-Some : goal.returns-in-Some
returns-in-Some c = λ le k.
    let d = described_of c.args.d.now in
    let x = c.in-Some.known in
    let n = c.args.n in
    let alike : same_cut (described_of x.dataset) d ≡ true = sym c.is_cut_alike.ensures ∙ c.if-is_cut_alike.true in
    let table : known_table (known_of c.args.known.now) d ≡ x.table.items =
    ap (λ o. known_table (known_of o) d) c.in-Some.is ∙ ap (λ t. cond t x.table.items []) alike in
    let past : c.len.result ≤ n = leb-true c.len.result n le in
    let few : length (absent_from 0 x.table.items) ≤ n = omega (arith, past, c.len.ensures, x.absent.ok.0, ap length x.listed) in
    ap (λ (t : List ℕ). unknown_at t (n + k)) table ∙ all_behind x.table.items n k few ∙ ap (λ (t : List ℕ). unknown_at t n + k) (sym table)
