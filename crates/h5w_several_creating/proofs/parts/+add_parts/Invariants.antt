use Rattle.std.proofs.Common.{length}
use Rattle.h5w_several_creating.proofs.parts.+add_parts.Given as goal

abbrev pub decreases-add_parts : goal.decreases-add_parts
decreases-add_parts l = length l.names.now
