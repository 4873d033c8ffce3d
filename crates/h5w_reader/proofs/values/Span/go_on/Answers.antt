use Rattle.std.proofs.Common.{◌≡◌, ◌-◌, ◌/◌, ◌≤◌, ◌∙◌, get_or, sym, arith}
use Rattle.h5w_model.specs.Numbers.{undefined}
use Rattle.h5w_reader.specs.Values.{end_band, reading_with}
use Rattle.h5w_reader.proofs.ReadLemmas.{span_touched, rest_fill, rest_done}
use Rattle.h5w_reader.proofs.values.Span.go_on.Goals as goal

pub loop-band-preserved : goal.loop-band-preserved
loop-band-preserved c =
    let s = c.args.self in
    let k = c.args.known.now in
    let r = reading_with k s.dataset in
    let i = c.loop-band.band in
    let high : i ≤ (s.to - 1) / s.dataset.layout.chunk.0 = omega arith in
    let none : get_or k.table.items i undefined ≡ undefined = rw (← c.deref.ensures.value) (sym c.address_at-address.ensures ∙ c.if-address.false) in
    record {
      low = omega arith;
      same = rw (c.in_ok-put_fill.ensures, c.touched-count.ensures.count)
          (sym (rest_fill r s.from s.to i c.loop-band.values.items (span_touched k s i c.loop-band.invariant.low high) none) ∙ c.loop-band.invariant.same);
    }

pub returns : goal.returns
returns c =
    let s = c.args.self in
    let r = reading_with c.args.known.now s.dataset in
    let i = c.loop-band.band in
    let behind : end_band r s.to ≤ i = omega arith in
    rw c.from_vec.ensures (sym (rest_done r s.from s.to i c.loop-band.values.items behind) ∙ c.loop-band.invariant.same)
