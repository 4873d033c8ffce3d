use Rattle.std.proofs.Common.{◌≡◌}
use Rattle.h5w_block_tests.proofs.sharing.each_is_right.Given as goal

abbrev pub invariant-loop : goal.invariant-loop
invariant-loop g l = l.reader.image ≡ l.image
