use Rattle.std.proofs.Common.{length}
use Rattle.h5w_several_writer.proofs.ending.+stop_all.Given as goal

abbrev pub decreases-stop_all : goal.decreases-stop_all
decreases-stop_all l = length l.parts.now
