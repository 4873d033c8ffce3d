use Rattle.std.proofs.Common.{arith, ◌≤◌, ◌∙◌, ap, sym, subst}
use Rattle.h5w_model.proofs.IntegerLemmas.{int_size_bounds}
use Rattle.h5w_writer.proofs.StateLemmas.{counts}
use Rattle.h5w_writer.specs.Sessions.{Session, rows_of}
use Rattle.h5w_writer.proofs.CreatingLemmas.{rows_told}
use Rattle.h5w_writer.proofs.state.WriterCore.rows.Goals as goal

pub overflow_add-result : goal.overflow_add-result
overflow_add-result c =
    let n = counts _ c.self.invariant.0 c.self.invariant.1.chunked (int_size_bounds c.self.inside.grid.int_type.size c.self.invariant.1.typed).0 in
    omega (arith, n.rows)

pub returns-clause-bound : goal.returns-clause-bound
returns-clause-bound c =
    let n = counts _ c.self.invariant.0 c.self.invariant.1.chunked (int_size_bounds c.self.inside.grid.int_type.size c.self.invariant.1.typed).0 in
    omega (arith, n.rows)

pub returns-clause-appended : goal.returns-clause-appended
returns-clause-appended c log stands =
    let some = subst (λ (t : Session). 1 ≤ t.dataset.shape.cols) c.self.view_is c.self.invariant.0.some_columns in
    ap rows_of c.self.view_is ∙ sym (rows_told c.args.self.now log some stands)
