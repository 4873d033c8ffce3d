use Rattle.std.proofs.Common.{◌≡◌, ◌<◌, ◌≤◌, length, false, refl, sym, arith}
use Rattle.std.proofs.lemmas.Bool.{both_ways}
use Rattle.h5w_model.specs.Findings.{are_rising}
use Rattle.h5w_bt_nodes.specs.Puts.{no_record}
use Rattle.h5w_bt_index.specs.Index.{keys_of}
use Rattle.h5w_bt_open.proofs.KeptLemmas.{rises_so, rising_end, rising_step, rising_stop}
use Rattle.h5w_bt_open.proofs.VisitLemmas.{rises}
use Rattle.h5w_bt_open.proofs.kept.is_rising.Goals as goal

pub returns-then-not-is_below : goal.returns-then-not-is_below
returns-then-not-is_below c =
    let rs = c.args.records.now in
    let some : 1 ≤ c.loop-at.at = omega (arith, c.loop-at.auto.at) in
    let inside : c.loop-at.at < length c.args.records.now = omega (arith, c.loop-at-test.true) in
    let no : are_rising (keys_of c.args.records.now) ≡ false = rising_stop rs c.loop-at.at no_record some inside c.is_below.result (sym c.is_below.ensures) c.if-not-is_below.true c.loop-at.invariant in
    (λ yes. absurd (cc), λ h. absurd (both_ways (are_rising (keys_of c.args.records.now)) no (rises_so rs h)))

pub loop-at-preserved : goal.loop-at-preserved
loop-at-preserved c =
    let rs = c.args.records.now in
    let some : 1 ≤ c.loop-at.at = omega (arith, c.loop-at.auto.at) in
    let inside : c.loop-at.at < length c.args.records.now = omega (arith, c.loop-at-test.true) in
    rising_step rs c.loop-at.at no_record some inside c.is_below.result (sym c.is_below.ensures) c.if-not-is_below.false c.loop-at.invariant

pub returns : goal.returns
returns c =
    let rs = c.args.records.now in
    let some : 1 ≤ c.loop-at.at = omega (arith, c.loop-at.auto.at) in
    let past : length c.args.records.now ≤ c.loop-at.at = omega (arith, c.loop-at-test.false) in
    (λ yes. rises rs (rising_end rs c.loop-at.at some past c.loop-at.invariant), λ h. refl)
