use Rattle.std.proofs.Common.{arith, ◌≡◌, ◌+◌, ◌-◌, ◌*◌, ◌++◌, ◌∙◌, length, length-append, ap, List, ℕ}
use Rattle.h5w_chunks.specs.Grids.{copies, dataset_of, fill_cell, row_len}
use Rattle.h5w_chunks.specs.Shares.{own_row, share_rows}
use Rattle.h5w_chunks.proofs.Geometry.{is_cut}
use Rattle.h5w_chunks.proofs.Loops.{padded_more, padded_all}
use Rattle.h5w_chunks.proofs.RowLaws.{length-pad, part_and_rest, row_ends}
use Rattle.h5w_chunks.proofs.grid.Grid.put_rows.Goals as goal

pub put_fill-requires-clause-bound : goal.put_fill-requires-clause-bound
put_fill-requires-clause-bound c =
    let d = dataset_of c.args.self.now in
    let s = c.args.share.now in
    let test = c.loop-t-test.true in
    let ends = row_ends d c.args.cells.now s (is_cut c.args.self.now c.requires.grid) c.requires.share c.loop-t.t (omega arith) in
    let parts = part_and_rest s.columns d.layout.chunk_cols d.int_type.size c.requires.share.columns in
    let long : length c.extend_from_slice-in-loop-t.new.self.items ≡ length c.loop-t.out.items + length c.row.result.now = ap length c.in_ok-extend_from_slice-2.ensures.items ∙ length-append c.loop-t.out.items c.row.result.now in
    omega (arith, ends, parts, long, c.row.ensures.sized, c.loop-t.invariant.long, c.requires.bound)

pub loop-t-preserved : goal.loop-t-preserved
loop-t-preserved c =
    let d = dataset_of c.args.self.now in
    let s = c.args.share.now in
    let test = c.loop-t-test.true in
    let pad = copies (d.layout.chunk_cols - s.columns) (fill_cell d) in
    let row : c.extend_from_slice-in-loop-t.new.self.items ≡ c.loop-t.out.items ++ c.row.result.now = c.in_ok-extend_from_slice-2.ensures.items in
    let both : c.put_fill.new.out.items ≡ (c.loop-t.out.items ++ c.row.result.now) ++ pad = c.in_ok-put_fill.ensures ∙ ap (λ (b : List ℕ). b ++ pad) row in
    let long : length c.put_fill.new.out.items ≡ length c.loop-t.out.items + length c.row.result.now + length pad =
    ap length both ∙ length-append (c.loop-t.out.items ++ c.row.result.now) pad ∙ ap (λ (n : ℕ). n + length pad) (length-append c.loop-t.out.items c.row.result.now) in
    let wide = length-pad d c.args.cells.now s (is_cut c.args.self.now c.requires.grid) c.requires.share in
    record {
      long = (let next : (c.loop-t.t + 1) * row_len d ≡ c.loop-t.t * row_len d + row_len d = omega arith in omega (arith, next, long, wide, c.row.ensures.sized, c.loop-t.invariant.long));
      goes = padded_more (own_row d c.args.cells.now s) pad c.loop-t.out.items c.put_fill.new.out.items (c.args.out.now.items ++ share_rows d c.args.cells.now s) c.row.result.now
          c.loop-t.t (s.rows - c.loop-t.t) (s.rows - (c.loop-t.t + 1)) (c.loop-t.t + 1) (omega arith) (omega arith) c.row.ensures.exact both c.loop-t.invariant.goes;
    }

pub returns : goal.returns
returns c =
    let d = dataset_of c.args.self.now in
    let s = c.args.share.now in
    let test = c.loop-t-test.false in
    padded_all (own_row d c.args.cells.now s) (copies (d.layout.chunk_cols - s.columns) (fill_cell d)) c.loop-t.out.items (c.args.out.now.items ++ share_rows d c.args.cells.now s) c.loop-t.t (s.rows - c.loop-t.t) (omega arith) c.loop-t.invariant.goes
