use Rattle.std.proofs.Common.{◌≡◌, ◌∙◌, ◌++◌, ap, arith}
use Rattle.h5w_model.specs.Calls.{first_in_band}
use Rattle.h5w_reader.specs.Bands.{reading_with, rows_in_band}
use Rattle.h5w_dataset.specs.Described.{described_of}
use Rattle.h5w_reader.specs.Grids.{rows_values}
use Rattle.h5w_reader.proofs.SideLemmas.{rows_step}
use Rattle.h5w_reader.proofs.grid.Grid.put_rows.Goals as goal

pub loop-row-preserved : goal.loop-row-preserved
loop-row-preserved c = λ k.
    let s = c.args.self.now in
    let r = reading_with k s.dataset in
    rows_step r s.from (first_in_band (described_of s.dataset) c.args.band s.from) c.loop-row.row c.args.ranges.now c.loop-row.out.items c.args.out.now.items c.put_row.new.out.items (c.loop-row.invariant k) (c.in_ok-put_row.ensures k)

pub returns : goal.returns
returns c = λ k.
    let s = c.args.self.now in
    let r = reading_with k s.dataset in
    let first = first_in_band (described_of s.dataset) c.args.band s.from in
    let all : c.loop-row.row ≡ rows_in_band r c.args.band s.from s.to = omega (arith, c.loop-row-test.false, c.touched-count.ensures.count) in
    c.loop-row.invariant k ∙ ap (λ n. c.args.out.now.items ++ rows_values r s.from c.args.ranges.now first n) all
