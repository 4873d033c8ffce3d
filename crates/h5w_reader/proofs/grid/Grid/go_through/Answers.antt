use Rattle.std.proofs.Common.{◌≡◌, ◌<◌, ◌≤◌, ◌+◌, ◌*◌, ◌∙◌, ◌++◌, ◌∷◌, [], None, length, get_or, sym, ap, subst, arith}
use Rattle.std.proofs.lemmas.List.{length-append}
use Rattle.h5w_model.specs.Numbers.{undefined}
use Rattle.h5w_model.specs.Tables.{chunks_across}
use Rattle.h5w_reader.specs.Bands.{reading_with}
use Rattle.h5w_dataset.specs.Described.{described_of}
use Rattle.h5w_reader.specs.Grids.{AreWhole, grid_values, grid_rest, bands_rest}
use Rattle.h5w_reader.proofs.SideLemmas.{grid_side, grid_none, grid_end, whole_none, chunk_small}
use Rattle.h5w_reader.proofs.grid.Grid.go_through.Goals as goal

pub overflow_mul-first : goal.overflow_mul-first
overflow_mul-first c =
    let few : c.args.band * c.across-across.result + c.across-across.result ≤ 1000000 = subst (λ m. c.args.band * m + m ≤ 1000000) (sym c.across-across.ensures.exact) (chunk_small c.args.self c.args.band c.requires.low c.requires.high) in
    omega arith

pub overflow_add-first : goal.overflow_add-first
overflow_add-first c =
    let few : c.args.band * c.across-across.result + c.across-across.result ≤ 1000000 = subst (λ m. c.args.band * m + m ≤ 1000000) (sym c.across-across.ensures.exact) (chunk_small c.args.self c.args.band c.requires.low c.requires.high) in
    let inside : c.loop-column.column ≤ c.across-across.result = c.loop-column.invariant.within in
    omega arith

pub loop-column-preserved : goal.loop-column-preserved
loop-column-preserved c =
    let s = c.args.self in
    let k = c.args.known.now in
    let d = described_of s.dataset in
    let r = reading_with k s.dataset in
    let i = c.args.band in
    let j = c.loop-column.column in
    let old = c.loop-column.ranges.items in
    let inv = c.loop-column.invariant in
    let items = c.in_ok-push.ensures.items in
    let side = grid_side k.place k.table.items s i c.requires.low c.requires.high in
    let beside : j < chunks_across d = omega (arith, c.loop-column-test.true, c.across-across.ensures.exact) in
    let code : get_or k.table.items (i * c.across-across.result + j) undefined ≡ undefined = rw (← c.deref.ensures.value) (sym c.address_at-address.ensures ∙ c.if-address.false) in
    let none : get_or k.table.items (i * chunks_across d + j) undefined ≡ undefined = subst (λ m. get_or k.table.items (i * m + j) undefined ≡ undefined) c.across-across.ensures.exact code in
    let long : length c.push.new.self.items ≡ length old + 1 = ap length items ∙ length-append old (None ∷ []) in
    record {
      count = omega (arith, inv.count, long);
      within = omega (arith, c.loop-column-test.true);
      whole = subst (AreWhole d i s.from s.to) (sym items) (whole_none d i s.from s.to old inv.whole);
      same = ap (λ xs. grid_rest r s.from s.to i (j + 1) c.args.values.items xs) items
          ∙ sym (grid_none r s.from s.to i j c.args.values.items old side.grid beside none)
          ∙ inv.same;
    }

pub put_rows-requires-clause-whole : goal.put_rows-requires-clause-whole
put_rows-requires-clause-whole c = subst (AreWhole (described_of c.args.self.dataset) c.args.band c.args.self.from c.args.self.to) (sym c.deref-2.ensures.value) c.loop-column.invariant.whole

pub returns : goal.returns
returns c =
    let s = c.args.self in
    let k = c.args.known.now in
    let r = reading_with k s.dataset in
    let i = c.args.band in
    let values = c.args.values.items in
    let behind : chunks_across (described_of s.dataset) ≤ c.loop-column.column = omega (arith, c.loop-column-test.false, c.across-across.ensures.exact) in
    ap (bands_rest r s.from s.to (i + 1)) (c.in_ok-put_rows.ensures k ∙ ap (λ os. values ++ grid_values r i s.from s.to os) c.deref-2.ensures.value)
    ∙ sym (grid_end r s.from s.to i c.loop-column.column values c.loop-column.ranges.items behind)
    ∙ c.loop-column.invariant.same
