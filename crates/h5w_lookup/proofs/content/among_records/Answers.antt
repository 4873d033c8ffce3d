use Rattle.std.proofs.Common.{◌≡◌, ◌<◌, ◌∙◌, true, false, length, sym, arith}
use Rattle.h5w_lookup.proofs.NodeLemmas.{leaf_here, leaf_more}
use Rattle.h5w_lookup.proofs.content.among_records.Goals as goal

pub returns-then-is_same : goal.returns-then-is_same
returns-then-is_same c =
    let below : c.is_below.result ≡ false = (let z = c.if-not-is_below.true in cc) in
    let lt : c.loop-r.r-index < length c.args.records.now = omega arith in
    sym (leaf_here c.args.key.now c.args.records.now c.loop-r.r-index _ true lt (sym c.is_below.ensures ∙ below) (sym c.is_same.ensures ∙ c.if-is_same.true)) ∙ c.loop-r.invariant

pub returns-else-is_same : goal.returns-else-is_same
returns-else-is_same c =
    let below : c.is_below.result ≡ false = (let z = c.if-not-is_below.true in cc) in
    let lt : c.loop-r.r-index < length c.args.records.now = omega arith in
    sym (leaf_here c.args.key.now c.args.records.now c.loop-r.r-index _ false lt (sym c.is_below.ensures ∙ below) (sym c.is_same.ensures ∙ c.if-is_same.false)) ∙ c.loop-r.invariant

pub loop-r-preserved : goal.loop-r-preserved
loop-r-preserved c =
    let below : c.is_below.result ≡ true = (let z = c.if-not-is_below.false in cc) in
    let lt : c.loop-r.r-index < length c.args.records.now = omega arith in
    sym (leaf_more c.args.key.now c.args.records.now c.loop-r.r-index _ lt (sym c.is_below.ensures ∙ below)) ∙ c.loop-r.invariant
