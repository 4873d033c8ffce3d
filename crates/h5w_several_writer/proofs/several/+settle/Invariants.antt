use Rattle.std.proofs.Common.{length}
use Rattle.h5w_several_writer.proofs.several.+settle.Given as goal

abbrev pub decreases-settle : goal.decreases-settle
decreases-settle l = length l.parts.now
