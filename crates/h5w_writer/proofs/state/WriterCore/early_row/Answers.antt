use Rattle.std.proofs.Common.{rules, arith, ◌≡◌, ◌-◌, ◌*◌, ◌/◌, ◌<◌, ◌≤◌, ◌+◌, ap, sym, subst, ◌∙◌, length}
use Rattle.h5w_chunks.specs.Grids.{dataset_of}
use Rattle.h5w_chunks.proofs.Geometry.{is_cut}
use Rattle.h5w_writer.specs.Early.{IsEarlyRow}
use Rattle.h5w_writer.specs.Sessions.{Session, next_row, rows_of}
use Rattle.h5w_writer.proofs.EarlyRowLemmas.{across_few, all_rows, band_some, over_budget, row_is}
use Rattle.h5w_writer.proofs.state.WriterCore.early_row.Goals as goal

pub band_bytes-requires-clause-few : goal.band_bytes-requires-clause-few
band_bytes-requires-clause-few c =
    let over = over_budget _ c.args.self.now c.self.view_is c.rows-to.result c.len-header.result c.unwritten.result c.next_row.result c.rows-to.ensures.value c.len-header.ensures.value c.unwritten.ensures.exact c.next_row.ensures.exact c.if-unwritten-header.false in
    across_few _ c.self.invariant.0 (is_cut c.self.inside.grid c.self.invariant.1) c.len-header.ensures.bound over

pub nonzero_div-bands : goal.nonzero_div-bands
nonzero_div-bands c = omega (arith, c.band_bytes.ensures.exact, band_some _ c.self.invariant.0 (is_cut c.self.inside.grid c.self.invariant.1))

pub returns-then-bands-eq0-clause-row : goal.returns-then-bands-eq0-clause-row
returns-then-bands-eq0-clause-row c =
    let over = over_budget _ c.args.self.now c.self.view_is c.rows-to.result c.len-header.result c.unwritten.result c.next_row.result c.rows-to.ensures.value c.len-header.ensures.value c.unwritten.ensures.exact c.next_row.ensures.exact c.if-unwritten-header.false in
    subst (λ n. IsEarlyRow c.args.self.now n) (sym c.rows-to.ensures.value) (subst (λ (s : Session). IsEarlyRow s (rows_of s)) c.self.view_is (all_rows _ c.self.invariant.0 c.len-header.ensures.bound over))

pub overflow_sub-result : goal.overflow_sub-result
overflow_sub-result c =
    let over = over_budget _ c.args.self.now c.self.view_is c.rows-to.result c.len-header.result c.unwritten.result c.next_row.result c.rows-to.ensures.value c.len-header.ensures.value c.unwritten.ensures.exact c.next_row.ensures.exact c.if-unwritten-header.false in
    (row_is _ c.args.self.now c.self.view_is c.self.invariant.0 (is_cut c.self.inside.grid c.self.invariant.1) c.rows-to.result c.len-header.result c.band_bytes.result c.div_ceil.result c.rows-to.ensures.value c.len-header.ensures.value c.len-header.ensures.bound c.band_bytes.ensures.exact c.div_ceil.ensures over c.if-bands-eq0.false).0

pub returns-clause-row : goal.returns-clause-row
returns-clause-row c =
    let i = c.self.inside in
    let over = over_budget _ c.args.self.now c.self.view_is c.rows-to.result c.len-header.result c.unwritten.result c.next_row.result c.rows-to.ensures.value c.len-header.ensures.value c.unwritten.ensures.exact c.next_row.ensures.exact c.if-unwritten-header.false in
    let row = row_is _ c.args.self.now c.self.view_is c.self.invariant.0 (is_cut i.grid c.self.invariant.1) c.rows-to.result c.len-header.result c.band_bytes.result c.div_ceil.result c.rows-to.ensures.value c.len-header.ensures.value c.len-header.ensures.bound c.band_bytes.ensures.exact c.div_ceil.ensures over c.if-bands-eq0.false in
    subst (λ (s : Session). IsEarlyRow s ((c.div_ceil.result - (i.budget - c.len-header.result) / c.band_bytes.result) * i.grid.layout.chunk.0)) c.self.view_is row.1
