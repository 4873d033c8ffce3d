use Rattle.std.proofs.Common.{◌≡◌, ◌<◌, ◌∙◌, true, false, length, sym, arith}
use Rattle.h5w_bt.proofs.KeyLemmas.{below-not_self}
use Rattle.h5w_lookup.proofs.KeyLemmas.{below_past}
use Rattle.h5w_lookup.proofs.NodeLemmas.{leaf_here, leaf_more}
use Rattle.h5w_lookup.proofs.content.among_from.Goals as goal

pub returns-then-is_same-clause-exact : goal.returns-then-is_same-clause-exact
returns-then-is_same-clause-exact c =
    let below : c.is_below.result ≡ false = (let z = c.if-not-is_below.true in cc) in
    let lt : c.loop-i.i < length c.args.records.now = omega arith in
    sym (leaf_here c.args.key.now c.args.records.now c.loop-i.i _ true lt (sym c.is_below.ensures ∙ below) (sym c.is_same.ensures ∙ c.if-is_same.true)) ∙ c.loop-i.invariant c.args.key.now (below-not_self c.args.key.now)

pub returns-else-is_same-clause-exact : goal.returns-else-is_same-clause-exact
returns-else-is_same-clause-exact c =
    let below : c.is_below.result ≡ false = (let z = c.if-not-is_below.true in cc) in
    let lt : c.loop-i.i < length c.args.records.now = omega arith in
    sym (leaf_here c.args.key.now c.args.records.now c.loop-i.i (record { address = 0; key = record { i = 0; j = 0 } }) false lt (sym c.is_below.ensures ∙ below) (sym c.is_same.ensures ∙ c.if-is_same.false)) ∙ c.loop-i.invariant c.args.key.now (below-not_self c.args.key.now)

pub loop-i-preserved : goal.loop-i-preserved
loop-i-preserved c = λ k h.
    let below : c.is_below.result ≡ true = (let z = c.if-not-is_below.false in cc) in
    let lt : c.loop-i.i < length c.args.records.now = omega arith in
    sym (leaf_more k c.args.records.now c.loop-i.i (record { address = 0; key = record { i = 0; j = 0 } }) lt (below_past _ c.args.key.now k (sym c.is_below.ensures ∙ below) h)) ∙ c.loop-i.invariant k h
