use Rattle.std.proofs.Common.{length}
use Rattle.h5w_system.proofs.disk.write_from.Given as goal

abbrev pub decreases-loop-rest : goal.decreases-loop-rest
decreases-loop-rest l = length l.rest
