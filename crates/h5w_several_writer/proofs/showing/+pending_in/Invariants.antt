use Rattle.std.proofs.Common.{length}
use Rattle.h5w_several_writer.proofs.showing.+pending_in.Given as goal

abbrev pub decreases-pending_in : goal.decreases-pending_in
decreases-pending_in l = length l.parts.now
