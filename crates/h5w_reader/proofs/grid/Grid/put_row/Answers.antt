use Rattle.std.proofs.Common.{◌≡◌, ◌<◌, ◌≤◌, ◌+◌, ◌*◌, ◌-◌, ◌∙◌, ◌++◌, None, length, get_or, refl, ap, sym, arith}
use Rattle.std.proofs.lemmas.List.{get_or_read}
use Rattle.h5w_model.specs.Calls.{first_in_band, last_column}
use Rattle.h5w_model.specs.Tables.{chunks_across}
use Rattle.h5w_reader.specs.Bands.{reading_with}
use Rattle.h5w_dataset.specs.Described.{described_of}
use Rattle.h5w_reader.specs.Grids.{row_values}
use Rattle.h5w_reader.proofs.SideLemmas.{grid_side, row_step, columns_all}
use Rattle.h5w_reader.proofs.grid.Grid.put_row.Goals as goal

pub returns : goal.returns
returns c = λ k.
    let s = c.args.self.now in
    let d = described_of s.dataset in
    let r = reading_with k s.dataset in
    let at = first_in_band d c.args.band s.from + c.args.row in
    let behind : chunks_across d ≤ c.loop-column.column = omega (arith, c.loop-column-test.false, c.requires.all) in
    c.loop-column.invariant k ∙ ap (λ n. c.args.out.now.items ++ row_values r s.from c.args.ranges.now at 0 n) (columns_all d c.loop-column.column s.dataset.wide behind)

pub loop-column-preserved : goal.loop-column-preserved
loop-column-preserved c = λ k.
    let s = c.args.self.now in
    let d = described_of s.dataset in
    let r = reading_with k s.dataset in
    let j = c.loop-column.column in
    let os = c.args.ranges.now in
    let at = first_in_band d c.args.band s.from + c.args.row in
    let side = grid_side k.place k.table.items s c.args.band c.requires.low c.requires.high in
    let lt : j < length os = omega arith in
    let beside : j < chunks_across d = omega (arith, c.requires.all, lt) in
    let here : get_or os j None ≡ c.index-ranges-column.result = sym (get_or_read os j c.index-ranges-column.result lt c.index-ranges-column.is None) in
    c.in_ok-put_columns.ensures k os here
    ∙ row_step r s.from at j os c.loop-column.out.items c.args.out.now.items (row_values r s.from os at (j * s.dataset.layout.chunk.1) (last_column d j - j * s.dataset.layout.chunk.1)) side.grid beside (c.loop-column.invariant k) refl
