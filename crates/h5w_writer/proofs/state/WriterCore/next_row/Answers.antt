use Rattle.std.proofs.Common.{arith, ◌≤◌}
use Rattle.h5w_model.proofs.IntegerLemmas.{int_size_bounds}
use Rattle.h5w_writer.proofs.StateLemmas.{counts}
use Rattle.h5w_writer.proofs.state.WriterCore.next_row.Goals as goal

pub overflow_add-result : goal.overflow_add-result
overflow_add-result c =
    let n = counts _ c.self.invariant.0 c.self.invariant.1.chunked (int_size_bounds c.self.inside.grid.int_type.size c.self.invariant.1.typed).0 in
    omega (arith, n.rows, c.self.invariant.0.early)

pub returns-clause-bound : goal.returns-clause-bound
returns-clause-bound c =
    let n = counts _ c.self.invariant.0 c.self.invariant.1.chunked (int_size_bounds c.self.inside.grid.int_type.size c.self.invariant.1.typed).0 in
    omega (arith, n.rows, c.self.invariant.0.early)
