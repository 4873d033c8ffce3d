use Rattle.std.proofs.Common.{◌≡◌, ◌<◌, ◌≤◌, ◌∙◌, true, false, length, sym, arith}
use Rattle.h5w_bt.proofs.KeyLemmas.{below-trans}
use Rattle.h5w_lookup.proofs.NodeLemmas.{children_here, children_more, children_last, child_holds}
use Rattle.h5w_lookup.proofs.SpanLemmas.{children_between}
use Rattle.h5w_lookup.proofs.content.among_children.Goals as goal

pub returns-then-records-i-clause-exact : goal.returns-then-records-i-clause-exact
returns-then-records-i-clause-exact c = λ go.
    let behind : length c.args.records.now ≤ c.loop-i.i = omega arith in
    let lt : c.loop-i.i < length c.args.children.now = omega arith in
    sym (children_last go c.args.key.now c.args.records.now c.args.children.now c.loop-i.i _ behind lt) ∙ c.loop-i.invariant.same go

pub returns-then-records-i-clause-kept : goal.returns-then-records-i-clause-kept
returns-then-records-i-clause-kept c = λ most all.
    let lt : c.loop-i.i < length c.args.children.now = omega arith in
    child_holds most c.args.children.now c.loop-i.i _ lt all

pub returns-then-is_same-clause-exact : goal.returns-then-is_same-clause-exact
returns-then-is_same-clause-exact c = λ go.
    let below : c.is_below.result ≡ false = (let z = c.if-not-is_below.true in cc) in
    let inside : c.loop-i.i < length c.args.records.now = omega arith in
    let lt : c.loop-i.i < length c.args.children.now = omega arith in
    sym (children_here go c.args.key.now c.args.records.now c.args.children.now c.loop-i.i _ (record { address = 0; records = 0; total = 0 }) true inside lt (sym c.is_below.ensures ∙ below) (sym c.is_same.ensures ∙ c.if-is_same.true)) ∙ c.loop-i.invariant.same go

pub returns-else-is_same-clause-exact : goal.returns-else-is_same-clause-exact
returns-else-is_same-clause-exact c = λ go.
    let below : c.is_below.result ≡ false = (let z = c.if-not-is_below.true in cc) in
    let inside : c.loop-i.i < length c.args.records.now = omega arith in
    let lt : c.loop-i.i < length c.args.children.now = omega arith in
    sym (children_here go c.args.key.now c.args.records.now c.args.children.now c.loop-i.i (record { address = 0; key = record { i = 0; j = 0 } }) _ false inside lt (sym c.is_below.ensures ∙ below) (sym c.is_same.ensures ∙ c.if-is_same.false)) ∙ c.loop-i.invariant.same go

pub returns-else-is_same-clause-kept : goal.returns-else-is_same-clause-kept
returns-else-is_same-clause-kept c = λ most all.
    let lt : c.loop-i.i < length c.args.children.now = omega arith in
    child_holds most c.args.children.now c.loop-i.i _ lt all

pub returns-then-records-i-clause-ahead : goal.returns-then-records-i-clause-ahead
returns-then-records-i-clause-ahead c = λ k low before go.
    let behind : length c.args.records.now ≤ c.loop-i.i = omega arith in
    let lt : c.loop-i.i < length c.args.children.now = omega arith in
    sym (c.loop-i.invariant.ahead k low go) ∙ children_last go k c.args.records.now c.args.children.now c.loop-i.i _ behind lt

pub returns-else-is_same-clause-ahead : goal.returns-else-is_same-clause-ahead
returns-else-is_same-clause-ahead c = λ k low before go.
    let inside : c.loop-i.i < length c.args.records.now = omega arith in
    let lt : c.loop-i.i < length c.args.children.now = omega arith in
    sym (c.loop-i.invariant.ahead k low go) ∙ children_between go k c.args.records.now c.args.children.now c.loop-i.i (record { address = 0; key = record { i = 0; j = 0 } }) _ inside lt before

pub loop-i-preserved : goal.loop-i-preserved
loop-i-preserved c =
    let below : c.is_below.result ≡ true = (let z = c.if-not-is_below.false in cc) in
    let inside : c.loop-i.i < length c.args.records.now = omega arith in
    let lt : c.loop-i.i < length c.args.children.now = omega arith in
    record {
      same = λ go. sym (children_more go c.args.key.now c.args.records.now c.args.children.now c.loop-i.i (record { address = 0; key = record { i = 0; j = 0 } }) (record { address = 0; records = 0; total = 0 }) inside lt (sym c.is_below.ensures ∙ below)) ∙ c.loop-i.invariant.same go;
      ahead = λ k low go. sym (children_more go k c.args.records.now c.args.children.now c.loop-i.i (record { address = 0; key = record { i = 0; j = 0 } }) (record { address = 0; records = 0; total = 0 }) inside lt (below-trans _ c.args.key.now k (sym c.is_below.ensures ∙ below) low)) ∙ c.loop-i.invariant.ahead k low go;
    }
