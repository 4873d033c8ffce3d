use Rattle.std.proofs.Common.{rules, arith, false, true, nat_lt, min, ◌≡◌, ℕ, ◌+◌, ◌-◌, ◌*◌, ◌/◌, ◌%◌, ◌^◌, ◌<◌, ◌≤◌, sym, ap, ◌∙◌}
use Rattle.std.specs.Int.{div_ceil}
use Rattle.h5w_model.specs.Logs.{div_up}
use Rattle.h5w_model.specs.Tables.{chunks_across}
use Rattle.h5w_chunks.proofs.Geometry.{is_cut}
use Rattle.h5w_chunks.specs.Grids.{IsGrid, dataset_of}
use Rattle.h5w_chunks.specs.declared.grid.Grid.{Grid}
use Rattle.h5w_writer.specs.Early.{band_bytes, bytes_of_bands, unwritten}
use Rattle.h5w_writer.specs.Sessions.{row_bytes}
use Rattle.h5w_writer.proofs.EarlyBytes.{Counted, counted, counted_begun, counted_whole}
use Rattle.h5w_writer.proofs.early.unwritten.Goals as goal

pub overflow_mul-result : goal.overflow_mul-result
overflow_mul-result c =
    let a = c.args in
    let n = counted a.grid.now a.from a.to c.div_ceil.result c.requires.grid c.requires.some c.requires.few c.if-to-from.false c.div_ceil.ensures in
    omega (arith, ap (λ k. (c.div_ceil.result - a.from / a.grid.now.layout.chunk.0) * k) c.band_bytes.ensures.exact, n.small)

pub returns-then-from-rows-eq0-clause-exact : goal.returns-then-from-rows-eq0-clause-exact
returns-then-from-rows-eq0-clause-exact c =
    let a = c.args in
    let n = counted a.grid.now a.from a.to c.div_ceil.result c.requires.grid c.requires.some c.requires.few c.if-to-from.false c.div_ceil.ensures in
    ap (λ k. (c.div_ceil.result - a.from / a.grid.now.layout.chunk.0) * k) c.band_bytes.ensures.exact ∙ counted_whole a.grid.now a.from a.to c.div_ceil.result n c.if-from-rows-eq0.true

pub returns-then-from-rows-eq0-clause-small : goal.returns-then-from-rows-eq0-clause-small
returns-then-from-rows-eq0-clause-small c =
    let a = c.args in
    let n = counted a.grid.now a.from a.to c.div_ceil.result c.requires.grid c.requires.some c.requires.few c.if-to-from.false c.div_ceil.ensures in
    omega (arith, ap (λ k. (c.div_ceil.result - a.from / a.grid.now.layout.chunk.0) * k) c.band_bytes.ensures.exact, n.small)

pub overflow_mul-from : goal.overflow_mul-from
overflow_mul-from c =
    let a = c.args in
    let n = counted a.grid.now a.from a.to c.div_ceil.result c.requires.grid c.requires.some c.requires.few c.if-to-from.false c.div_ceil.ensures in
    omega (arith, n.next)

pub overflow_mul-result-2 : goal.overflow_mul-result-2
overflow_mul-result-2 c =
    let a = c.args in
    let n = counted a.grid.now a.from a.to c.div_ceil.result c.requires.grid c.requires.some c.requires.few c.if-to-from.false c.div_ceil.ensures in
    omega (arith, ap (λ k. (k - a.from) * a.grid.now.shape.cols) c.min.ensures, n.cells, n.band)

pub overflow_mul-result-3 : goal.overflow_mul-result-3
overflow_mul-result-3 c =
    let a = c.args in
    let n = counted a.grid.now a.from a.to c.div_ceil.result c.requires.grid c.requires.some c.requires.few c.if-to-from.false c.div_ceil.ensures in
    omega (arith, ap (λ k. (k - a.from) * a.grid.now.shape.cols * c.from.result) c.min.ensures, ap (λ k. (min a.to ((a.from / a.grid.now.layout.chunk.0 + 1) * a.grid.now.layout.chunk.0) - a.from) * a.grid.now.shape.cols * k) c.from.ensures, n.own, n.band)

pub overflow_sub-result : goal.overflow_sub-result
overflow_sub-result c =
    let a = c.args in
    let n = counted a.grid.now a.from a.to c.div_ceil.result c.requires.grid c.requires.some c.requires.few c.if-to-from.false c.div_ceil.ensures in
    omega (arith, n.some)

pub overflow_mul-result-4 : goal.overflow_mul-result-4
overflow_mul-result-4 c =
    let a = c.args in
    let n = counted a.grid.now a.from a.to c.div_ceil.result c.requires.grid c.requires.some c.requires.few c.if-to-from.false c.div_ceil.ensures in
    omega (arith, ap (λ k. (c.div_ceil.result - a.from / a.grid.now.layout.chunk.0 - 1) * k) c.band_bytes-2.ensures.exact, n.rest, n.small)

pub overflow_add-result : goal.overflow_add-result
overflow_add-result c =
    let a = c.args in
    let n = counted a.grid.now a.from a.to c.div_ceil.result c.requires.grid c.requires.some c.requires.few c.if-to-from.false c.div_ceil.ensures in
    omega (
      arith,
      ap (λ k. (c.div_ceil.result - a.from / a.grid.now.layout.chunk.0 - 1) * k) c.band_bytes-2.ensures.exact,
      ap (λ k. (k - a.from) * a.grid.now.shape.cols * c.from.result) c.min.ensures,
      ap (λ k. (min a.to ((a.from / a.grid.now.layout.chunk.0 + 1) * a.grid.now.layout.chunk.0) - a.from) * a.grid.now.shape.cols * k) c.from.ensures,
      n.own,
      n.rest,
      n.small,
    )

pub returns-clause-exact : goal.returns-clause-exact
returns-clause-exact c =
    let a = c.args in
    let n = counted a.grid.now a.from a.to c.div_ceil.result c.requires.grid c.requires.some c.requires.few c.if-to-from.false c.div_ceil.ensures in
    ap (λ k. (c.min.result - a.from) * a.grid.now.shape.cols * c.from.result + (c.div_ceil.result - a.from / a.grid.now.layout.chunk.0 - 1) * k) c.band_bytes-2.ensures.exact
    ∙ ap (λ k. (k - a.from) * a.grid.now.shape.cols * c.from.result + (c.div_ceil.result - a.from / a.grid.now.layout.chunk.0 - 1) * band_bytes (dataset_of a.grid.now)) c.min.ensures
    ∙ ap (λ k. (min a.to ((a.from / a.grid.now.layout.chunk.0 + 1) * a.grid.now.layout.chunk.0) - a.from) * a.grid.now.shape.cols * k + (c.div_ceil.result - a.from / a.grid.now.layout.chunk.0 - 1) * band_bytes (dataset_of a.grid.now)) c.from.ensures
    ∙ counted_begun a.grid.now a.from a.to c.div_ceil.result n c.if-from-rows-eq0.false

pub returns-clause-small : goal.returns-clause-small
returns-clause-small c =
    let a = c.args in
    let n = counted a.grid.now a.from a.to c.div_ceil.result c.requires.grid c.requires.some c.requires.few c.if-to-from.false c.div_ceil.ensures in
    omega (
      arith,
      ap (λ k. (c.div_ceil.result - a.from / a.grid.now.layout.chunk.0 - 1) * k) c.band_bytes-2.ensures.exact,
      ap (λ k. (k - a.from) * a.grid.now.shape.cols * c.from.result) c.min.ensures,
      ap (λ k. (min a.to ((a.from / a.grid.now.layout.chunk.0 + 1) * a.grid.now.layout.chunk.0) - a.from) * a.grid.now.shape.cols * k) c.from.ensures,
      n.own,
      n.rest,
      n.small,
    )
