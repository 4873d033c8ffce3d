use Rattle.std.proofs.Common.{◌<◌, ◌≤◌, ◌∙◌, List, Option, ℕ, length, sym, ap, arith}
use Rattle.h5w_reader.specs.Bands.{reading_with, end_band}
use Rattle.h5w_reader.specs.Banding.{banded}
use Rattle.h5w_reader.specs.Grids.{grid_rest}
use Rattle.h5w_reader.proofs.SideLemmas.{bands_begin, bands_end}
use Rattle.h5w_reader.proofs.grid.Grid.go_on.Goals as goal

pub returns-in-Looks : goal.returns-in-Looks
returns-in-Looks c =
    let s = c.args.self in
    let k = c.args.known.now in
    let r = reading_with k s.dataset in
    let i = c.loop-i.i in
    let values = c.loop-i.values.items in
    let less : i < end_band r s.to = omega (arith, c.loop-i-test.true, c.end-end.ensures) in
    ap (banded k s i) (sym c.in-Looks.is)
    ∙ c.in_ok-more.ensures
    ∙ ap (λ (os : List (Option (List ℕ))). grid_rest r s.from s.to i (length os) values os) c.new.ensures.items
    ∙ sym (bands_begin r s.from s.to i values less)
    ∙ c.loop-i.invariant.same

pub loop-i-preserved : goal.loop-i-preserved
loop-i-preserved c =
    let s = c.args.self in
    let k = c.args.known.now in
    let r = reading_with k s.dataset in
    let i = c.loop-i.i in
    let values = c.loop-i.values.items in
    let less : i < end_band r s.to = omega (arith, c.loop-i-test.true, c.end-end.ensures) in
    record {
      low = omega (arith, c.loop-i.invariant.low);
      same = ap (banded k s i) (sym c.in-Done.is)
          ∙ c.in_ok-more.ensures
          ∙ ap (λ (os : List (Option (List ℕ))). grid_rest r s.from s.to i (length os) values os) c.new.ensures.items
          ∙ sym (bands_begin r s.from s.to i values less)
          ∙ c.loop-i.invariant.same;
    }

pub returns : goal.returns
returns c =
    let s = c.args.self in
    let r = reading_with c.args.known.now s.dataset in
    let i = c.loop-i.i in
    let behind : end_band r s.to ≤ i = omega (arith, c.loop-i-test.false, c.end-end.ensures) in
    rw c.from_vec.ensures (sym (bands_end r s.from s.to i c.loop-i.values.items behind) ∙ c.loop-i.invariant.same)
