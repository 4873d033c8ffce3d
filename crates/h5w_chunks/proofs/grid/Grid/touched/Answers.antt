use Rattle.std.proofs.Common.{arith, ◌≡◌, ◌-◌, ◌*◌, ◌/◌, ◌∙◌, ap, sym, ℕ, nat_lt}
use Rattle.std.proofs.lemmas.Bool.{cond-true, lt-ltb}
use Rattle.h5w_model.specs.Logs.{div_up}
use Rattle.h5w_model.specs.Tables.{chunks_across}
use Rattle.h5w_chunks.specs.Grids.{dataset_of}
use Rattle.h5w_chunks.proofs.Geometry.{ceil_is_up, is_cut, touched_few}
use Rattle.h5w_chunks.proofs.grid.Grid.touched.Goals as goal

counted : (c : goal.After-across) → (c.div_ceil.result - c.args.from / c.args.self.now.layout.chunk.0) * c.across.result ≡ (div_up c.args.to c.args.self.now.layout.chunk.0 - c.args.from / c.args.self.now.layout.chunk.0) * chunks_across (dataset_of c.args.self.now)
counted c =
    let cut = is_cut c.args.self.now c.requires.grid in
    ap (λ (n : ℕ). (n - c.args.from / c.args.self.now.layout.chunk.0) * c.across.result) (c.div_ceil.ensures ∙ ceil_is_up c.args.to c.args.self.now.layout.chunk.0 cut.rows)
    ∙ ap (λ (n : ℕ). (div_up c.args.to c.args.self.now.layout.chunk.0 - c.args.from / c.args.self.now.layout.chunk.0) * n) c.across.ensures

pub overflow_mul-result : goal.overflow_mul-result
overflow_mul-result c =
    let d = dataset_of c.args.self.now in
    let cut = is_cut c.args.self.now c.requires.grid in
    let few = touched_few c.args.from c.args.to d.layout.chunk_rows d.shape.cols d.layout.chunk_cols cut.rows cut.cols c.if-from-to.true in
    rw (counted c) (omega (arith, few.1, c.requires.room))

pub returns-then-from-to : goal.returns-then-from-to
returns-then-from-to c =
    let d = dataset_of c.args.self.now in
    counted c ∙ sym (cond-true (nat_lt c.args.from c.args.to) ((div_up c.args.to d.layout.chunk_rows - c.args.from / d.layout.chunk_rows) * chunks_across d) 0 (lt-ltb c.args.from c.args.to c.if-from-to.true))
