use Rattle.std.proofs.Common.{arith, ◌≡◌, ◌+◌, ◌-◌, ◌*◌, ◌++◌, ap, ℕ}
use Rattle.h5w_chunks.specs.Grids.{dataset_of, row_len}
use Rattle.h5w_chunks.specs.Shares.{own_row, row_blocks, writes_of}
use Rattle.h5w_chunks.proofs.Geometry.{is_cut}
use Rattle.h5w_chunks.proofs.Loops.{blocks_more, blocks_all}
use Rattle.h5w_chunks.proofs.RowLaws.{row_ends}
use Rattle.h5w_chunks.proofs.grid.Grid.put_each_row.Goals as goal

pub overflow_add-place : goal.overflow_add-place
overflow_add-place c =
    let d = dataset_of c.args.self.now in
    let test = c.loop-t-test.true in
    let ends = row_ends d c.args.cells.now c.args.share.now (is_cut c.args.self.now c.requires.grid) c.requires.share c.loop-t.t (omega arith) in
    omega (arith, ends, c.row_len-place.ensures, c.loop-t.invariant.place, c.requires.ends)

pub loop-t-preserved : goal.loop-t-preserved
loop-t-preserved c =
    let d = dataset_of c.args.self.now in
    let s = c.args.share.now in
    let test = c.loop-t-test.true in
    let stride = row_len d in
    record {
      place = (let next : (c.loop-t.t + 1) * stride ≡ c.loop-t.t * stride + stride = omega arith in omega (arith, next, c.row_len-place.ensures, c.loop-t.invariant.place));
      goes = blocks_more (own_row d c.args.cells.now s) c.loop-t.out.items c.push_pieces.new.out.items (c.args.out.now.items ++ writes_of (row_blocks (own_row d c.args.cells.now s) c.args.at stride 0 s.rows))
          c.row.result.now c.loop-t.place stride c.loop-t.t (s.rows - c.loop-t.t) (s.rows - (c.loop-t.t + 1)) (c.loop-t.t + 1) (c.loop-t.place + c.row_len-place.result)
          (omega arith) (omega arith) (ap (λ (n : ℕ). c.loop-t.place + n) c.row_len-place.ensures) c.row.ensures.exact c.in_ok-push_pieces.ensures c.loop-t.invariant.goes;
    }

pub returns : goal.returns
returns c =
    let d = dataset_of c.args.self.now in
    let s = c.args.share.now in
    let test = c.loop-t-test.false in
    blocks_all (own_row d c.args.cells.now s) c.loop-t.out.items (c.args.out.now.items ++ writes_of (row_blocks (own_row d c.args.cells.now s) c.args.at (row_len d) 0 s.rows)) c.loop-t.place (row_len d) c.loop-t.t (s.rows - c.loop-t.t) (omega arith) c.loop-t.invariant.goes
