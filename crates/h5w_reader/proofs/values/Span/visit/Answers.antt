use Rattle.std.proofs.Common.{◌+◌, ◌^◌, ◌<◌, ◌≤◌, sym, arith}
use Rattle.h5w_reader.specs.Values.{reading_with}
use Rattle.h5w_reader.proofs.ReadLemmas.{span_touched, rest_past, rest_look}
use Rattle.h5w_reader.proofs.values.Span.visit.Goals as goal

pub returns-then-address-start : goal.returns-then-address-start
returns-then-address-start c = λ k e.
    let s = c.args.self in
    let r = reading_with k s.dataset in
    let start = c.range-start.result.0 in
    let len = c.range-start.result.1 in
    let past : 2 ^ 64 < c.args.address + start + len = omega arith in
    sym (rest_past r s.from s.to c.args.band c.args.address start len c.args.values.items (span_touched k s c.args.band c.requires.low c.requires.high) e c.range-start.ensures.start c.range-start.ensures.len c.requires.there past)

pub returns : goal.returns
returns c = λ k e.
    let s = c.args.self in
    let r = reading_with k s.dataset in
    let start = c.range-start.result.0 in
    let len = c.range-start.result.1 in
    let fits : c.args.address + start + len ≤ 2 ^ 64 = omega arith in
    rw (c.new-gather.ensures.left, c.new-gather.ensures.start, c.new.ensures.items)
    (sym (rest_look r s.from s.to c.args.band c.args.address start len c.args.values.items (span_touched k s c.args.band c.requires.low c.requires.high) e c.range-start.ensures.start c.range-start.ensures.len c.requires.there fits))
