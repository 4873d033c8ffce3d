use Rattle.std.proofs.Common.{arith}
use Rattle.h5w_writer_tests.proofs.Columns.{are_rows}
use Rattle.h5w_writer_tests.proofs.endings.append.Goals as goal

pub append-requires : goal.append-requires
append-requires g c = record { rows = are_rows c.args.core.now c.args.values.now c.columns.result c.columns.ensures.value (omega arith) }
