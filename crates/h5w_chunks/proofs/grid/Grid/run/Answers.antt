use Rattle.std.proofs.Common.{arith, ◌≡◌, ◌+◌, ◌-◌, ◌*◌, ◌∙◌, ap, sym, ℕ}
use Rattle.h5w_model.specs.Numbers.{range}
use Rattle.h5w_chunks.specs.Grids.{dataset_of, row_len}
use Rattle.h5w_chunks.proofs.Geometry.{is_cut}
use Rattle.h5w_chunks.proofs.RowLaws.{run_is}
use Rattle.h5w_chunks.proofs.grid.Grid.run.Goals as goal

pub overflow_mul-result : goal.overflow_mul-result
overflow_mul-result c =
    let run = run_is (dataset_of c.args.self.now) c.args.cells.now c.args.share.now (is_cut c.args.self.now c.requires.grid) c.requires.share c.requires.whole c.requires.all in
    rw c.row_len.ensures (omega (arith, run.1))

pub overflow_add-result : goal.overflow_add-result
overflow_add-result c =
    let run = run_is (dataset_of c.args.self.now) c.args.cells.now c.args.share.now (is_cut c.args.self.now c.requires.grid) c.requires.share c.requires.whole c.requires.all in
    rw c.row_len.ensures (omega (arith, run.1))

pub slice_bounds-result-end : goal.slice_bounds-result-end
slice_bounds-result-end c =
    let run = run_is (dataset_of c.args.self.now) c.args.cells.now c.args.share.now (is_cut c.args.self.now c.requires.grid) c.requires.share c.requires.whole c.requires.all in
    let long : c.args.share.now.rows * c.row_len.result ≡ c.args.share.now.rows * row_len (dataset_of c.args.self.now) = ap (λ (n : ℕ). c.args.share.now.rows * n) c.row_len.ensures in
    omega (arith, run.1, long)

pub returns : goal.returns
returns c =
    let run = run_is (dataset_of c.args.self.now) c.args.cells.now c.args.share.now (is_cut c.args.self.now c.requires.grid) c.requires.share c.requires.whole c.requires.all in
    let long : c.args.share.now.at + c.args.share.now.rows * c.row_len.result - c.args.share.now.at ≡ c.args.share.now.rows * row_len (dataset_of c.args.self.now) =
    ap (λ (n : ℕ). c.args.share.now.at + c.args.share.now.rows * n - c.args.share.now.at) c.row_len.ensures ∙ omega arith in
    ap (λ (n : ℕ). range c.args.cells.now c.args.share.now.at n) long ∙ sym run.0
