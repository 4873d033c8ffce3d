use Rattle.std.proofs.Common.{◌≡◌, ◌+◌, ◌-◌, ◌<◌, ◌≤◌, ◌∙◌, ℕ, length, ap, arith}
use Rattle.h5w_model.specs.Calls.{known_table}
use Rattle.h5w_model.specs.Tables.{needed}
use Rattle.h5w_ea.specs.Fields.{eaib_of}
use Rattle.h5w_lookup.specs.Attempts.{known_of}
use Rattle.h5w_dataset.specs.Described.{described_of}
use Rattle.h5w_lookup.specs.Stores.{kept}
use Rattle.h5w_lookup.specs.Unknown.{unknown_at}
use Rattle.h5w_lookup.proofs.AheadLemmas.{on_ok, ahead_same, ahead_more}
use Rattle.h5w_lookup.proofs.ahead.go_ahead.Goals as goal

pub returns-in-None-clause-same : goal.returns-in-None-clause-same
returns-in-None-clause-same c = λ place.
    let d = described_of c.args.d.now in
    let known = known_table (known_of c.args.known.now) d in
    let xs = c.args.found.now.items in
    let i = c.unknown-i.result in
    let count : c.len.result ≡ length xs = omega (arith, c.len.ensures, c.args.found.now.ok.0) in
    let is : i ≡ unknown_at known (length xs) = c.unknown-i.ensures ∙ ap (unknown_at known) count in
    let less : i < needed d = omega (arith, c.if-needed-i.false, c.needed.ensures) in
    let one : c.keys_across.result ≡ 1 = omega (arith, c.if-keys_across-ne1.false) in
    rw c.in-Array.is (ahead_same place known d (eaib_of c.in-Array.block) (kept c.args.store.now) (kept c.at_hand.new.store) c.keys_across.result i xs c.keys_across.ensures one is less c.at_hand.ensures.same)

pub returns-in-Some-clause-same : goal.returns-in-Some-clause-same
returns-in-Some-clause-same c = on_ok c.take.result c.take.ensures (λ taken place.
    let d = described_of c.args.d.now in
    let known = known_table (known_of c.args.known.now) d in
    let xs = c.args.found.now.items in
    let i = c.unknown-i.result in
    let e = eaib_of c.in-Array.block in
    let most : ℕ = c.needed.result - i in
    let count : c.len.result ≡ length xs = omega (arith, c.len.ensures, c.args.found.now.ok.0) in
    let again : c.len-else-keys_across-ne1.result ≡ length xs = omega (arith, c.len-else-keys_across-ne1.ensures, c.args.found.now.ok.0) in
    let is : i ≡ unknown_at known (length xs) = c.unknown-i.ensures ∙ ap (unknown_at known) count in
    let less : i < needed d = omega (arith, c.if-needed-i.false, c.needed.ensures) in
    let inside : i + most ≤ needed d = omega (arith, less, c.needed.ensures) in
    let one : c.keys_across.result ≡ 1 = omega (arith, c.if-keys_across-ne1.false) in
    let rises : (k : ℕ) → unknown_at known (length xs + k) ≡ unknown_at known (length xs) + k = rw again at (c.all_unknown.ensures c.if-not-all_unknown.false) in
    rw c.in-Array.is (ahead_more place known d e (kept c.at_hand.new.store) c.keys_across.result i most xs c.take.new.found.items c.keys_across.ensures one is rises inside (taken e i c.in-Some.ensures.some)
    ∙ ahead_same place known d e (kept c.args.store.now) (kept c.at_hand.new.store) c.keys_across.result i xs c.keys_across.ensures one is less c.at_hand.ensures.same))
