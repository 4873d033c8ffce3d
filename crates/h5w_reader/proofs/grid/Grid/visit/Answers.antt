use Rattle.std.proofs.Common.{◌≡◌, ◌∙◌, ◌+◌, ◌^◌, ◌<◌, ◌≤◌, length, sym, subst, arith}
use Rattle.h5w_model.specs.Calls.{touched_from}
use Rattle.h5w_reader.specs.Grids.{touched_len}
use Rattle.h5w_dataset.specs.Described.{described_of}
use Rattle.h5w_reader.specs.Bands.{reading_with}
use Rattle.h5w_reader.proofs.SideLemmas.{grid_side, grid_past, grid_look}
use Rattle.h5w_reader.proofs.grid.Grid.visit.Goals as goal

pub returns-then-address-start : goal.returns-then-address-start
returns-then-address-start c = λ k e.
    let s = c.args.self in
    let long : c.args.ranges.len ≡ length c.args.ranges.items = omega (arith, c.args.ranges.ok.0) in
    let side = grid_side k.place k.table.items s c.args.band c.requires.low c.requires.high in
    let start = c.range-start.result.0 in
    let len = c.range-start.result.1 in
    let past : 2 ^ 64 < c.args.address + start + len = omega arith in
    sym (grid_past (reading_with k s.dataset) s.from s.to c.args.band (length c.args.ranges.items) c.args.address start len c.args.values.items c.args.ranges.items side.grid c.requires.beside e (subst (λ m. start ≡ touched_from (described_of s.dataset) c.args.band m s.from) (c.len.ensures ∙ long) c.range-start.ensures.start)
    (subst (λ m. len ≡ touched_len (described_of s.dataset) c.args.band m s.from s.to) (c.len.ensures ∙ long) c.range-start.ensures.len) c.requires.there past)

pub returns : goal.returns
returns c = λ k e.
    let s = c.args.self in
    let long : c.args.ranges.len ≡ length c.args.ranges.items = omega (arith, c.args.ranges.ok.0) in
    let side = grid_side k.place k.table.items s c.args.band c.requires.low c.requires.high in
    let start = c.range-start.result.0 in
    let len = c.range-start.result.1 in
    let fits : c.args.address + start + len ≤ 2 ^ 64 = omega arith in
    rw (c.new-gather.ensures.left, c.new-gather.ensures.start, c.new.ensures.items)
    (sym (grid_look (reading_with k s.dataset) s.from s.to c.args.band (length c.args.ranges.items) c.args.address start len c.args.values.items c.args.ranges.items side.grid c.requires.beside e (subst (λ m. start ≡ touched_from (described_of s.dataset) c.args.band m s.from) (c.len.ensures ∙ long) c.range-start.ensures.start)
    (subst (λ m. len ≡ touched_len (described_of s.dataset) c.args.band m s.from s.to) (c.len.ensures ∙ long) c.range-start.ensures.len) c.requires.there fits))
