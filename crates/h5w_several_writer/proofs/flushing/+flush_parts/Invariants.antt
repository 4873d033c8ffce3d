use Rattle.std.proofs.Common.{length}
use Rattle.h5w_several_writer.proofs.flushing.+flush_parts.Given as goal

abbrev pub decreases-flush_parts : goal.decreases-flush_parts
decreases-flush_parts g l = length l.parts.now
