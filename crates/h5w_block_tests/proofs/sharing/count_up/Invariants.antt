use Rattle.std.proofs.Common.{◌≡◌}
use Rattle.h5w_block_tests.proofs.sharing.count_up.Given as goal

abbrev pub invariant-loop-k : goal.invariant-loop-k
invariant-loop-k g l = l.writer.image ≡ l.image
