use Rattle.std.proofs.Common.{length, arith}
use Rattle.h5w_live_tests.proofs.helpers.batch_of.Goals as goal

pub returns : goal.returns
returns c = (length c.from_vec.result, omega arith)
