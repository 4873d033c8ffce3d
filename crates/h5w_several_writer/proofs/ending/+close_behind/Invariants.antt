use Rattle.std.proofs.Common.{length}
use Rattle.h5w_several_writer.proofs.ending.+close_behind.Given as goal

abbrev pub decreases-close_behind : goal.decreases-close_behind
decreases-close_behind l = length l.parts.now
