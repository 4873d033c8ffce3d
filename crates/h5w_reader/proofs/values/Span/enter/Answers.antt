use Rattle.std.proofs.Common.{◌∙◌, take, refl, sym, ap}
use Rattle.h5w_reader.specs.Values.{reading_with, valued}
use Rattle.h5w_reader.proofs.ReadLemmas.{some_size, span_touched, band_cut, band_read, valued_goes}
use Rattle.h5w_reader.proofs.values.Span.enter.Goals as goal

pub returns-then-got-len : goal.returns-then-got-len
returns-then-got-len c =
    let s = c.args.self in
    let r = reading_with c.args.known.now s.dataset in
    sym (band_cut r s.from s.to c.args.band c.args.place c.range-len.result.1 c.args.values.items c.args.bytes.now c.range-len.ensures.len c.if-got-len.true)

pub returns : goal.returns
returns c =
    let s = c.args.self in
    let k = c.args.known.now in
    let r = reading_with k s.dataset in
    let b = c.args.bytes.now in
    let len = c.range-len.result.1 in
    let t = span_touched k s c.args.band c.requires.low c.requires.high in
    ap (valued k) c.from.ensures
    ∙ valued_goes k c.in_ok-goes.goes
    ∙ c.in_ok-goes.ensures
    ∙ rw c.in_ok-put_cells.ensures (band_read r s.from s.to c.args.band c.args.place len c.args.values.items b (take len b) t (some_size s.dataset) c.range-len.ensures.len c.if-got-len.false refl)
